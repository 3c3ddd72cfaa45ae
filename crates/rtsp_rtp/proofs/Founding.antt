-- What is found in the rows of a session.
use Rattle.std.proofs.Common.{inl, inr, ◌≡◌, ℕ, Bool, true, false, if◌then◌else◌, List, [], ◌∷◌, refl, ap, sym, ◌∙◌, subst, Option, Some, None}
use Rattle.std.proofs.lemmas.Bool.{cases_Bool}
use Rattle.std.proofs.lemmas.Option.{none-some}
use Rattle.rtsp_sessions.specs.Searches.{first_with}

-- the first row that passes does
pub first-passes : {X : Type 0} (p : ℕ × X → Bool) (es : List (ℕ × X)) (e : ℕ × X) → first_with p es ≡ Some e → p e ≡ true
first-passes p [] e is = absurd (none-some e is)
first-passes {X} p (d ∷ es) e is =
    elim (cases_Bool (p d)) [
      | inl passes ↦ subst (λ (z : ℕ × X). p z ≡ true) (some_is d e (rw passes at is)) passes
      | inr fails ↦ first-passes p es e (rw fails at is)
    ] where
      some_is : (a b : ℕ × X) → ◌≡◌ {A = Option (ℕ × X)} (Some a) (Some b) → a ≡ b
      some_is a b h = cc
