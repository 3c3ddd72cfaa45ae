-- What was answered behind a gate, where each request is repaired first.
use Rattle.std.proofs.Common.{◌≡◌, ℕ, List, Some, Result, Ok, Err, OnOk, IfErr, refl, ◌∙◌, ap, subst, inl, inr}
use Rattle.rtsp_grammar.specs.declared.fault.MessageFault.{MessageFault}
use Rattle.rtsp_grammar.specs.declared.message.Item.{Item}
use Rattle.rtsp_grammar.specs.declared.message.Item.TheVariants as items
use Rattle.rtsp_engine.specs.Served.{Output}
use Rattle.rtsp_engine.proofs.Along.{answered_along, fault_along}
use Rattle.rtsp_engine.proofs.Keeping.{answered_keeps, fault_keeps}
use Rattle.rtsp_dialect.specs.Repair.{repaired, repaired_item}
use Rattle.rtsp_dialect.specs.Repairing.{AnswersRepaired, GivesUpRepaired, TakesRepaired, FaultsRepaired}
use Rattle.rtsp_guard.specs.Guarding.{Kept, AnswersGuarded, GivesUpGuarded, of, AnswersBehind, GivesUpBehind}
use Rattle.rtsp_guard.specs.declared.guarding.Guarded.{Guarded}
use Rattle.rtsp_guard.proofs.Behind.{Keeps, answers_stays, gives_up_stays, keeps_both}

module _ {A : Type 0} (Answers : A → Item → List ℕ → A → Type 0) (GivesUp : A → Item → A → Type 0) where
  abbrev R' : Kept A → Item → List ℕ → Kept A → Type 0
  R' = AnswersRepaired (AnswersGuarded Answers GivesUp) (GivesUpGuarded Answers GivesUp)

  abbrev L' : Kept A → Item → Kept A → Type 0
  L' = GivesUpRepaired (AnswersGuarded Answers GivesUp) (GivesUpGuarded Answers GivesUp)

module _ {A P : Type 0} (Answers : A → Item → List ℕ → A → Type 0) (GivesUp : A → Item → A → Type 0) where
  abbrev R : Guarded A P → Item → List ℕ → Guarded A P → Type 0
  R = AnswersRepaired (AnswersBehind Answers GivesUp) (GivesUpBehind Answers GivesUp)

  abbrev L : Guarded A P → Item → Guarded A P → Type 0
  L = GivesUpRepaired (AnswersBehind Answers GivesUp) (GivesUpBehind Answers GivesUp)

  abbrev Stay : Guarded A P → Guarded A P → Type 0
  Stay = Keeps Answers GivesUp

  same : (s : Guarded A P) → Stay s s
  same s = record { answerer = refl; users = refl }

  again : (s t u : Guarded A P) → Stay s t → Stay t u → Stay s u
  again s t u h k = record { answerer = k.answerer ∙ h.answerer; users = k.users ∙ h.users }

  answers_keeps : (s t : Guarded A P) (item : Item) (bytes : List ℕ) → R s item bytes t → Stay s t
  answers_keeps s t item bytes h = keeps_both Answers GivesUp s t h.1 (answers_stays Answers GivesUp (repaired_item item) _ bytes _ h.0)

  behind_keeps : (s t : Guarded A P) (item : Item) → GivesUpBehind Answers GivesUp s item t → Stay s t
  behind_keeps s t item h = keeps_both Answers GivesUp s t h.1 (gives_up_stays Answers GivesUp item _ _ h.0)

  lost_keeps : (s t : Guarded A P) (item : Item) → L s item t → Stay s t
  lost_keeps s t (items.Request request) (inl e) = subst (λ (z : Guarded A P). Stay z t) e (same t)
  lost_keeps s t (items.Request request) (inr h) = behind_keeps s t (items.Request (repaired request)) h
  lost_keeps s t (items.Response response) h = behind_keeps s t (items.Response response) h
  lost_keeps s t (items.Frame frame) h = behind_keeps s t (items.Frame frame) h

  lost_along : (s t : Guarded A P) (item : Item) → L s item t → L' Answers GivesUp (of s) item (of t)
  lost_along s t (items.Request request) (inl e) = inl (ap of e)
  lost_along s t (items.Request request) (inr h) = inr h.0
  lost_along s t (items.Response response) h = h.0
  lost_along s t (items.Frame frame) h = h.0

  pub repaired_keeps : (pushed : Result (Unit {0}) MessageFault) (bytes rest : List ℕ) (s t : Output (Guarded A P))
      → OnOk pushed (TakesRepaired (AnswersBehind Answers GivesUp) (GivesUpBehind Answers GivesUp) bytes rest s t)
      → IfErr pushed (λ f. FaultsRepaired (AnswersBehind Answers GivesUp) (GivesUpBehind Answers GivesUp) bytes f s t) → Stay s.answerer t.answerer
  repaired_keeps (Ok done) bytes rest s t ok err = answered_keeps R L Stay same again answers_keeps lost_keeps bytes rest s t ok
  repaired_keeps (Err fault) bytes rest s t ok err = fault_keeps R L Stay same again answers_keeps lost_keeps bytes fault s t err

  pub taken_repaired : (pushed : Result (Unit {0}) MessageFault) (bytes rest old text : List ℕ) (s t : Guarded A P) (new : Kept A) → of t ≡ new
      → OnOk pushed (TakesRepaired (AnswersBehind Answers GivesUp) (GivesUpBehind Answers GivesUp) bytes rest (record { text = Some old; answerer = s }) (record { text = Some text; answerer = t }))
      → OnOk pushed (TakesRepaired (AnswersGuarded Answers GivesUp) (GivesUpGuarded Answers GivesUp) bytes rest (record { text = Some old; answerer = of s }) (record { text = Some text; answerer = new }))
  taken_repaired (Ok done) bytes rest old text s t new is h =
      subst (λ z. TakesRepaired (AnswersGuarded Answers GivesUp) (GivesUpGuarded Answers GivesUp) bytes rest (record { text = Some old; answerer = of s }) (record { text = Some text; answerer = z })) is
      (answered_along R L (R' Answers GivesUp) (L' Answers GivesUp) of (λ s t item bytes h. h.0) lost_along bytes rest _ _ h)
  taken_repaired (Err fault) bytes rest old text s t new is h = tt

  pub faulted_repaired : (pushed : Result (Unit {0}) MessageFault) (bytes old text : List ℕ) (s t : Guarded A P) (new : Kept A) → of t ≡ new
      → IfErr pushed (λ f. FaultsRepaired (AnswersBehind Answers GivesUp) (GivesUpBehind Answers GivesUp) bytes f (record { text = Some old; answerer = s }) (record { text = Some text; answerer = t }))
      → IfErr pushed (λ f. FaultsRepaired (AnswersGuarded Answers GivesUp) (GivesUpGuarded Answers GivesUp) bytes f (record { text = Some old; answerer = of s }) (record { text = Some text; answerer = new }))
  faulted_repaired (Ok done) bytes old text s t new is h = tt
  faulted_repaired (Err fault) bytes old text s t new is h =
      subst (λ z. FaultsRepaired (AnswersGuarded Answers GivesUp) (GivesUpGuarded Answers GivesUp) bytes fault (record { text = Some old; answerer = of s }) (record { text = Some text; answerer = z })) is
      (fault_along R L (R' Answers GivesUp) (L' Answers GivesUp) of (λ s t item bytes h. h.0) lost_along bytes fault _ _ h)
