-- A desk that answers repaired requests stays the same in its parts.
use Rattle.std.proofs.Common.{ℕ, List, Result, OnOk, IfErr, Ok, Err, subst, sym, inl, inr}
use Rattle.rtsp_grammar.specs.declared.fault.MessageFault.{MessageFault}
use Rattle.rtsp_grammar.specs.declared.message.Item.{Item}
use Rattle.rtsp_grammar.specs.declared.message.Item.TheVariants as items
use Rattle.rtsp_engine.specs.Desk.{SameParts}
use Rattle.rtsp_engine.specs.DeskAnswers.{AnswersAt, GivesUpAt}
use Rattle.rtsp_traits.specs.Devices.{Devices}
use Rattle.rtsp_engine.specs.Served.{Output}
use Rattle.rtsp_engine.specs.declared.desk.Desk.{Desk}
use Rattle.rtsp_engine.proofs.Keeping.{answered_keeps, fault_keeps}
use Rattle.rtsp_engine.proofs.Parts.{same_parts, same_again}
use Rattle.rtsp_dialect.specs.Repairing.{AnswersRepaired, GivesUpRepaired}
use Rattle.rtsp_watch.specs.Understanding.{TakesAt, FaultsAt}

module _ {R B W C P S N : Type 0} (d : Devices B W C P S) where
  pub gives_up_same : (s t : Desk R B W C P S N) (item : Item) → GivesUpRepaired (AnswersAt d) (GivesUpAt d) s item t → SameParts s t
  gives_up_same s t (items.Request request) (inl same) = subst (λ (z : Desk R B W C P S N). SameParts s z) (sym same) (same_parts s)
  gives_up_same s t (items.Request request) (inr h) = h.1
  gives_up_same s t (items.Response response) h = h.1
  gives_up_same s t (items.Frame frame) h = h.1

  pub pushed_same : (pushed : Result (Unit {0}) MessageFault) (bytes rest : List ℕ) (s t : Output (Desk R B W C P S N))
      → OnOk pushed (TakesAt d bytes rest s t) → IfErr pushed (λ f. FaultsAt d bytes f s t) → SameParts s.answerer t.answerer
  pushed_same (Ok done) bytes rest s t ok err =
      answered_keeps (AnswersRepaired (AnswersAt d) (GivesUpAt d)) (GivesUpRepaired (AnswersAt d) (GivesUpAt d)) SameParts same_parts same_again (λ s t item bytes h. h.1) gives_up_same bytes rest s t ok
  pushed_same (Err fault) bytes rest s t ok err =
      fault_keeps (AnswersRepaired (AnswersAt d) (GivesUpAt d)) (GivesUpRepaired (AnswersAt d) (GivesUpAt d)) SameParts same_parts same_again (λ s t item bytes h. h.1) gives_up_same bytes fault s t err
