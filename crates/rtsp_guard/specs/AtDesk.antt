-- How the items of a connection are answered at a desk behind a gate.
use Rattle.std.specs.Prelude.{◌≡◌, ℕ, List, [], ◌∷◌, Result, Ok, Err}
use Rattle.rtsp_grammar.specs.declared.fault.MessageFault.{MessageFault}
use Rattle.rtsp_grammar.specs.declared.message.Item.{Item}
use Rattle.rtsp_grammar.specs.declared.message.Item.TheVariants as items
use Rattle.rtsp_grammar.specs.declared.message.Request.{Request}
use Rattle.rtsp_credentials.specs.declared.gate.Gate.{Gate}
use Rattle.rtsp_credentials.specs.declared.users.Users.{Users}
use Rattle.rtsp_credentials.specs.declared.refusal.Refusal.{Refusal}
use Rattle.rtsp_credentials.specs.Verdict.{passed}
use Rattle.rtsp_traits.specs.Devices.{Devices}
use Rattle.rtsp_engine.specs.DeskAnswers.{AnswersAt, GivesUpAt}
use Rattle.rtsp_engine.specs.Served.{Output}
use Rattle.rtsp_engine.specs.declared.desk.Desk.{Desk}
use Rattle.rtsp_dialect.specs.Repairing.{TakesRepaired, FaultsRepaired}
use Rattle.rtsp_guard.specs.Guarding.{Kept, AnswersGuarded, GivesUpGuarded, TakesGuarded, FaultsGuarded}

-- none of the items is a request that is let through at this gate
abbrev pub NoneIsLetThrough : Users → Gate → List Item → Type 0
NoneIsLetThrough users gate [] = Unit {0}
NoneIsLetThrough users gate (items.Request request ∷ others) = ((refusal : Refusal) × (passed users gate request ≡ Err refusal)) × NoneIsLetThrough users gate others
NoneIsLetThrough users gate (items.Response response ∷ others) = NoneIsLetThrough users gate others
NoneIsLetThrough users gate (items.Frame frame ∷ others) = NoneIsLetThrough users gate others

module _ {R B W C P S N : Type 0} (d : Devices B W C P S) where
  -- bytes were items and a rest, and the items were answered at the desk, as far as they were let through
  abbrev pub TakesAtDesk : List ℕ → List ℕ → Output (Kept (Desk R B W C P S N)) → Output (Kept (Desk R B W C P S N)) → Type 0
  TakesAtDesk bytes rest s t = TakesGuarded (AnswersAt d) (GivesUpAt d) bytes rest s t

  abbrev pub FaultsAtDesk : List ℕ → MessageFault → Output (Kept (Desk R B W C P S N)) → Output (Kept (Desk R B W C P S N)) → Type 0
  FaultsAtDesk bytes fault s t = FaultsGuarded (AnswersAt d) (GivesUpAt d) bytes fault s t

  -- the same of the repaired items
  abbrev pub TakesRepairedAtDesk : List ℕ → List ℕ → Output (Kept (Desk R B W C P S N)) → Output (Kept (Desk R B W C P S N)) → Type 0
  TakesRepairedAtDesk bytes rest s t = TakesRepaired (AnswersGuarded (AnswersAt d) (GivesUpAt d)) (GivesUpGuarded (AnswersAt d) (GivesUpAt d)) bytes rest s t

  abbrev pub FaultsRepairedAtDesk : List ℕ → MessageFault → Output (Kept (Desk R B W C P S N)) → Output (Kept (Desk R B W C P S N)) → Type 0
  FaultsRepairedAtDesk bytes fault s t = FaultsRepaired (AnswersGuarded (AnswersAt d) (GivesUpAt d)) (GivesUpGuarded (AnswersAt d) (GivesUpAt d)) bytes fault s t
