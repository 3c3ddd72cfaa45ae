-- What was answered by one who is watched was answered by him unwatched.
use Rattle.std.proofs.Common.{◌≡◌, ℕ, List, Some, Result, Ok, Err, OnOk, IfErr, refl, ◌∙◌, ap, subst, inl, inr}
use Rattle.rtsp_grammar.specs.declared.fault.MessageFault.{MessageFault}
use Rattle.rtsp_grammar.specs.declared.message.Item.{Item}
use Rattle.rtsp_grammar.specs.declared.message.Item.TheVariants as items
use Rattle.rtsp_engine.specs.Served.{Output, Answered, FaultedAfter}
use Rattle.rtsp_engine.proofs.Along.{answered_along, fault_along}
use Rattle.rtsp_engine.proofs.Keeping.{answered_keeps, fault_keeps}
use Rattle.rtsp_dialect.specs.Repairing.{AnswersRepaired, GivesUpRepaired}
use Rattle.rtsp_watch.specs.Watching.{AnswersWatched, GivesUpWatched}
use Rattle.rtsp_watch.specs.declared.watching.Watched.{Watched}

-- who is watched
abbrev pub other : {A T : Type 0} → Watched A T → A
other s = s.answerer.now

-- he stays the same one
abbrev Keeps : {A T : Type 0} → Watched A T → Watched A T → Type 0
Keeps s t = t.answerer.ghost_name ≡ s.answerer.ghost_name

-- in whatever way he answers
module _ {A T : Type 0} (R : Watched A T → Item → List ℕ → Watched A T → Type 0) (L : Watched A T → Item → Watched A T → Type 0) where
  module _ (answers : (s t : Watched A T) (item : Item) (bytes : List ℕ) → R s item bytes t → Keeps s t) (gives_up : (s t : Watched A T) (item : Item) → L s item t → Keeps s t) where
    pub keeps : (pushed : Result (Unit {0}) MessageFault) (bytes rest : List ℕ) (s t : Output (Watched A T))
        → OnOk pushed (Answered R L bytes rest s t) → IfErr pushed (λ f. FaultedAfter R L bytes f s t) → Keeps s.answerer t.answerer
    keeps (Ok done) bytes rest s t ok err = answered_keeps R L Keeps (λ s. refl) (λ s t u h k. k ∙ h) answers gives_up bytes rest s t ok
    keeps (Err fault) bytes rest s t ok err = fault_keeps R L Keeps (λ s. refl) (λ s t u h k. k ∙ h) answers gives_up bytes fault s t err

  module _ (R' : A → Item → List ℕ → A → Type 0) (L' : A → Item → A → Type 0)
      (answers : (s t : Watched A T) (item : Item) (bytes : List ℕ) → R s item bytes t → R' (other s) item bytes (other t)) (gives_up : (s t : Watched A T) (item : Item) → L s item t → L' (other s) item (other t)) where
    pub taken : (pushed : Result (Unit {0}) MessageFault) (bytes rest old text : List ℕ) (s t : Watched A T) (new : A) → other t ≡ new
        → OnOk pushed (Answered R L bytes rest (record { text = Some old; answerer = s }) (record { text = Some text; answerer = t }))
        → OnOk pushed (Answered R' L' bytes rest (record { text = Some old; answerer = other s }) (record { text = Some text; answerer = new }))
    taken (Ok done) bytes rest old text s t new is h =
        subst (λ z. Answered R' L' bytes rest (record { text = Some old; answerer = other s }) (record { text = Some text; answerer = z })) is
        (answered_along R L R' L' other answers gives_up bytes rest _ _ h)
    taken (Err fault) bytes rest old text s t new is h = tt

    pub faulted : (pushed : Result (Unit {0}) MessageFault) (bytes old text : List ℕ) (s t : Watched A T) (new : A) → other t ≡ new
        → IfErr pushed (λ f. FaultedAfter R L bytes f (record { text = Some old; answerer = s }) (record { text = Some text; answerer = t }))
        → IfErr pushed (λ f. FaultedAfter R' L' bytes f (record { text = Some old; answerer = other s }) (record { text = Some text; answerer = new }))
    faulted (Ok done) bytes old text s t new is h = tt
    faulted (Err fault) bytes old text s t new is h =
        subst (λ z. FaultedAfter R' L' bytes fault (record { text = Some old; answerer = other s }) (record { text = Some text; answerer = z })) is
        (fault_along R L R' L' other answers gives_up bytes fault _ _ h)

-- where each request is repaired first
module _ {A T : Type 0} (Answers : A → Item → List ℕ → A → Type 0) (GivesUp : A → Item → A → Type 0) where
  pub repaired_gives_up : (s t : Watched A T) (item : Item) → GivesUpRepaired (AnswersWatched Answers GivesUp) (GivesUpWatched Answers GivesUp) s item t → GivesUpRepaired Answers GivesUp (other s) item (other t)
  repaired_gives_up s t (items.Request request) (inl same) = inl (ap (λ (z : Watched A T). other z) same)
  repaired_gives_up s t (items.Request request) (inr h) = inr h.0
  repaired_gives_up s t (items.Response response) h = h.0
  repaired_gives_up s t (items.Frame frame) h = h.0

  pub repaired_keeps : (s t : Watched A T) (item : Item) → GivesUpRepaired (AnswersWatched Answers GivesUp) (GivesUpWatched Answers GivesUp) s item t → Keeps s t
  repaired_keeps s t (items.Request request) (inl same) = ap (λ (z : Watched A T). z.answerer.ghost_name) same
  repaired_keeps s t (items.Request request) (inr h) = h.1
  repaired_keeps s t (items.Response response) h = h.1
  repaired_keeps s t (items.Frame frame) h = h.1
