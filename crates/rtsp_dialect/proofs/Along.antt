-- What was answered by one who repairs was answered, repaired, by the other one behind him.
use Rattle.std.proofs.Common.{◌≡◌, ℕ, List, Some, Result, Ok, Err, OnOk, IfErr, refl, ◌∙◌, subst}
use Rattle.rtsp_grammar.specs.declared.fault.MessageFault.{MessageFault}
use Rattle.rtsp_grammar.specs.declared.message.Item.{Item}
use Rattle.rtsp_engine.specs.Served.{Output, Answered, FaultedAfter}
use Rattle.rtsp_engine.proofs.Along.{answered_along, fault_along}
use Rattle.rtsp_engine.proofs.Keeping.{answered_keeps, fault_keeps}
use Rattle.rtsp_dialect.specs.Repairing.{AnswersRepaired, GivesUpRepaired, AnswersBehind, GivesUpBehind, TakesRepaired, FaultsRepaired}
use Rattle.rtsp_dialect.specs.declared.repairing.Repairing.{Repairing}

module _ {A : Type 0} (Answers : A → Item → List ℕ → A → Type 0) (GivesUp : A → Item → A → Type 0) where
  abbrev other : Repairing A → A
  other s = s.answerer.now

  -- the other one stays the same one
  abbrev Keeps : Repairing A → Repairing A → Type 0
  Keeps s t = t.answerer.ghost_name ≡ s.answerer.ghost_name

  pub pushed_keeps : (pushed : Result (Unit {0}) MessageFault) (bytes rest : List ℕ) (s t : Output (Repairing A))
      → OnOk pushed (Answered (AnswersBehind Answers GivesUp) (GivesUpBehind Answers GivesUp) bytes rest s t)
      → IfErr pushed (λ f. FaultedAfter (AnswersBehind Answers GivesUp) (GivesUpBehind Answers GivesUp) bytes f s t) → Keeps s.answerer t.answerer
  pushed_keeps (Ok done) bytes rest s t ok err =
      answered_keeps (AnswersBehind Answers GivesUp) (GivesUpBehind Answers GivesUp) Keeps (λ s. refl) (λ s t u h k. k ∙ h) (λ s t item bytes h. h.1) (λ s t item h. h.1) bytes rest s t ok
  pushed_keeps (Err fault) bytes rest s t ok err =
      fault_keeps (AnswersBehind Answers GivesUp) (GivesUpBehind Answers GivesUp) Keeps (λ s. refl) (λ s t u h k. k ∙ h) (λ s t item bytes h. h.1) (λ s t item h. h.1) bytes fault s t err

  -- a piece was taken by the other one, as he then is
  pub taken_behind : (pushed : Result (Unit {0}) MessageFault) (bytes rest old text : List ℕ) (s t : Repairing A) (new : A) → other t ≡ new
      → OnOk pushed (Answered (AnswersBehind Answers GivesUp) (GivesUpBehind Answers GivesUp) bytes rest (record { text = Some old; answerer = s }) (record { text = Some text; answerer = t }))
      → OnOk pushed (TakesRepaired Answers GivesUp bytes rest (record { text = Some old; answerer = other s }) (record { text = Some text; answerer = new }))
  taken_behind (Ok done) bytes rest old text s t new is h =
      subst (λ z. TakesRepaired Answers GivesUp bytes rest (record { text = Some old; answerer = other s }) (record { text = Some text; answerer = z })) is
      (answered_along (AnswersBehind Answers GivesUp) (GivesUpBehind Answers GivesUp) (AnswersRepaired Answers GivesUp) (GivesUpRepaired Answers GivesUp) other (λ s t item bytes h. h.0) (λ s t item h. h.0) bytes rest _ _ h)
  taken_behind (Err fault) bytes rest old text s t new is h = tt

  -- one with a fault
  pub faulted_behind : (pushed : Result (Unit {0}) MessageFault) (bytes old text : List ℕ) (s t : Repairing A) (new : A) → other t ≡ new
      → IfErr pushed (λ f. FaultedAfter (AnswersBehind Answers GivesUp) (GivesUpBehind Answers GivesUp) bytes f (record { text = Some old; answerer = s }) (record { text = Some text; answerer = t }))
      → IfErr pushed (λ f. FaultsRepaired Answers GivesUp bytes f (record { text = Some old; answerer = other s }) (record { text = Some text; answerer = new }))
  faulted_behind (Ok done) bytes old text s t new is h = tt
  faulted_behind (Err fault) bytes old text s t new is h =
      subst (λ z. FaultsRepaired Answers GivesUp bytes fault (record { text = Some old; answerer = other s }) (record { text = Some text; answerer = z })) is
      (fault_along (AnswersBehind Answers GivesUp) (GivesUpBehind Answers GivesUp) (AnswersRepaired Answers GivesUp) (GivesUpRepaired Answers GivesUp) other (λ s t item bytes h. h.0) (λ s t item h. h.0) bytes fault _ _ h)
