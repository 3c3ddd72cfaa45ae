-- Whether any of a list is such, one after another.
use Rattle.std.proofs.Common.{◌≡◌, ℕ, zero, suc, ◌+◌, Bool, true, false, List, [], ◌∷◌, drop, slice_get, Some, sym, ap, ◌∙◌, arith}
use Rattle.std.specs.Prelude.{◌||◌}
use Rattle.std.specs.List.{list_any}

module _ {X : Type 0} where
  drop_by : (xs : List X) (i : ℕ) (x : X) → slice_get xs i ≡ Some x → drop i xs ≡ x ∷ drop (suc i) xs
  drop_by [] i x e = absurd cc
  drop_by (y ∷ xs) zero x e = let p : y ≡ x = cc in ap (λ (z : X). z ∷ xs) p
  drop_by (y ∷ xs) (suc i) x e = drop_by xs i x e

  drop_at_get : (xs : List X) (i : ℕ) (x : X) → slice_get xs i ≡ Some x → drop i xs ≡ x ∷ drop (i + 1) xs
  drop_at_get xs i x at = let s : suc i ≡ i + 1 = omega arith in drop_by xs i x at ∙ ap (λ (n : ℕ). x ∷ drop n xs) s

module _ {X : Type 0} (test : X → Bool) (xs : List X) where
  pub any_here : (i : ℕ) (x : X) → slice_get xs i ≡ Some x → test x ≡ true → list_any test (drop i xs) ≡ list_any test xs → true ≡ list_any test xs
  any_here i x at t so_far = sym (ap (λ (b : Bool). b || list_any test (drop (i + 1) xs)) t) ∙ sym (ap (list_any test) (drop_at_get xs i x at)) ∙ so_far

  pub any_behind : (i : ℕ) (x : X) → slice_get xs i ≡ Some x → test x ≡ false → list_any test (drop i xs) ≡ list_any test xs → list_any test (drop (i + 1) xs) ≡ list_any test xs
  any_behind i x at t so_far = sym (ap (λ (b : Bool). b || list_any test (drop (i + 1) xs)) t) ∙ sym (ap (list_any test) (drop_at_get xs i x at)) ∙ so_far
