-- A desk stays the same in its parts.
use Rattle.std.proofs.Common.{ℕ, List, Result, OnOk, IfErr, Ok, Err, refl, ◌∙◌}
use Rattle.rtsp_grammar.specs.declared.fault.MessageFault.{MessageFault}
use Rattle.rtsp_engine.specs.Desk.{SameParts}
use Rattle.rtsp_engine.specs.DeskAnswers.{AnswersAt, GivesUpAt, Takes, Faults}
use Rattle.rtsp_traits.specs.Devices.{Devices}
use Rattle.rtsp_engine.specs.Served.{Output, Line, EndsFrom}
use Rattle.rtsp_engine.specs.declared.desk.Desk.{Desk}
use Rattle.rtsp_engine.specs.declared.serving.ServeEnd.{ServeEnd}
use Rattle.rtsp_engine.proofs.Keeping.{answered_keeps, fault_keeps, ends_keep}

module _ {R B W C P S N : Type 0} where
  pub same_parts : (s : Desk R B W C P S N) → SameParts s s
  same_parts s = record { seat = refl; binder = refl; words = refl; clock = refl; plays = refl; shares = refl; table = refl; asker = refl; same = (refl, refl) }

  pub same_again : (s t u : Desk R B W C P S N) → SameParts s t → SameParts t u → SameParts s u
  same_again s t u h k = record {
    seat = k.seat ∙ h.seat;
    binder = k.binder ∙ h.binder;
    words = k.words ∙ h.words;
    clock = k.clock ∙ h.clock;
    plays = k.plays ∙ h.plays;
    shares = k.shares ∙ h.shares;
    table = k.table ∙ h.table;
    asker = k.asker ∙ h.asker;
    same = (k.same.0 ∙ h.same.0, k.same.1 ∙ h.same.1);
  }

  module _ (d : Devices B W C P S) where
    pub ended_same : (end : ServeEnd) (start : List ℕ) (s t : Line (Desk R B W C P S N))
        → EndsFrom (AnswersAt d) (GivesUpAt d) start end s t → SameParts s.output.answerer t.output.answerer
    ended_same end start s t h = ends_keep (AnswersAt d) (GivesUpAt d) SameParts same_parts same_again (λ s t item bytes h. h.1) (λ s t item h. h.1) end start s t h

    pub pushed_same : (pushed : Result (Unit {0}) MessageFault) (bytes rest : List ℕ) (s t : Output (Desk R B W C P S N))
        → OnOk pushed (Takes d bytes rest s t) → IfErr pushed (λ f. Faults d bytes f s t) → SameParts s.answerer t.answerer
    pushed_same (Ok done) bytes rest s t ok err = answered_keeps (AnswersAt d) (GivesUpAt d) SameParts same_parts same_again (λ s t item bytes h. h.1) (λ s t item h. h.1) bytes rest s t ok
    pushed_same (Err fault) bytes rest s t ok err = fault_keeps (AnswersAt d) (GivesUpAt d) SameParts same_parts same_again (λ s t item bytes h. h.1) (λ s t item h. h.1) bytes fault s t err
