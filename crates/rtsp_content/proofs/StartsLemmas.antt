-- The last start up to a unit.
use Rattle.std.proofs.Common.{◌≡◌, ℕ, zero, suc, ◌<◌, ◌≤◌, max, Bool, true, false, if◌then◌else◌, List, [], ◌∷◌, ◌++◌, length, refl, sym, ap, ◌∙◌, subst, arith, inl, inr, ◌⊎◌, Option, Some, None}
use Rattle.std.specs.Prelude.{nat_le, Contains, slice_get}
use Rattle.std.proofs.lemmas.Bool.{leb-true, leb-false, cases_Bool, cases_lt}
use Rattle.rtsp_content.specs.StartsValue.{IsLastStart, AreStarts, greatest_to, start_at}

greatest_before : (starts : List ℕ) (asked : ℕ) → greatest_to starts asked ≤ asked
greatest_before [] asked = omega arith
greatest_before (s ∷ ss) asked =
    elim (cases_Bool (nat_le s asked)) [
      | inl low ↦ rw low (omega (arith, leb-true s asked low, greatest_before ss asked))
      | inr high ↦ rw high (greatest_before ss asked)
    ]

-- a list's first element, and those behind it
contains_first : (s : ℕ) (ss : List ℕ) → Contains (s ∷ ss) s
contains_first s ss = (0, omega arith, refl)

contains_more : (s other : ℕ) (ss : List ℕ) → Contains ss other → Contains (s ∷ ss) other
contains_more s other ss is = (suc is.0, omega (arith, is.1), is.2)

contains_one : (s other : ℕ) (ss : List ℕ) → Contains (s ∷ ss) other → (other ≡ s) ⊎ Contains ss other
contains_one s other ss (zero, within, is) = inl (sym is)
contains_one s other ss (suc k, within, is) = inr (k, omega (arith, within), is)

greatest_one : (s asked other : ℕ) (ss : List ℕ) → (b : Bool) → nat_le s asked ≡ b → (other ≡ s) ⊎ (other ≤ greatest_to ss asked) → other ≤ asked
    → other ≤ (if b then max s (greatest_to ss asked) else greatest_to ss asked)
greatest_one s asked other ss true low (inl is) below = omega (arith, is)
greatest_one s asked other ss true low (inr rest) below = omega (arith, rest)
greatest_one s asked other ss false high (inl is) below = absurd (omega (arith, leb-false s asked high, is, below))
greatest_one s asked other ss false high (inr rest) below = rest

greatest_last : (starts : List ℕ) (asked other : ℕ) → Contains starts other → other ≤ asked → other ≤ greatest_to starts asked
greatest_last [] asked other is low = absurd (omega (arith, is.1))
greatest_last (s ∷ ss) asked other is low =
    elim (contains_one s other ss is) [
      | inl first ↦ greatest_one s asked other ss (nat_le s asked) refl (inl first) low
      | inr more ↦ greatest_one s asked other ss (nat_le s asked) refl (inr (greatest_last ss asked other more low)) low
    ]

max_is : (a b : ℕ) → (max a b ≡ a) ⊎ (max a b ≡ b)
max_is a b = elim (cases_lt a b) [ inl low ↦ inr (omega (arith, low)) | inr high ↦ inl (omega (arith, high)) ]

greatest_in : (s asked : ℕ) (ss : List ℕ) (b : Bool) → (greatest_to ss asked ≡ 0) ⊎ Contains ss (greatest_to ss asked)
    → ((if b then max s (greatest_to ss asked) else greatest_to ss asked) ≡ 0) ⊎ Contains (s ∷ ss) (if b then max s (greatest_to ss asked) else greatest_to ss asked)
greatest_in s asked ss true rest =
    elim (max_is s (greatest_to ss asked)) [
      | inl one ↦ inr (subst (Contains (s ∷ ss)) (sym one) (contains_first s ss))
      | inr more ↦ elim rest [
        | inl none ↦ inl (more ∙ none)
        | inr is ↦ inr (subst (Contains (s ∷ ss)) (sym more) (contains_more s (greatest_to ss asked) ss is))
      ]
    ]
greatest_in s asked ss false (inl none) = inl none
greatest_in s asked ss false (inr is) = inr (contains_more s (greatest_to ss asked) ss is)

-- it is none, or one of them
greatest_is : (starts : List ℕ) (asked : ℕ) → (greatest_to starts asked ≡ 0) ⊎ Contains starts (greatest_to starts asked)
greatest_is [] asked = inl refl
greatest_is (s ∷ ss) asked = greatest_in s asked ss (nat_le s asked) (greatest_is ss asked)

pub start_at-is : (units : ℕ) (starts : Option (List ℕ)) (asked : ℕ) → AreStarts units starts → IsLastStart starts asked (start_at starts asked)
start_at-is units None asked are = record { start = tt; before = omega arith; last = λ other is low. low }
start_at-is units (Some starts) asked are = record {
  start = elim (greatest_is starts asked) [
    | inl none ↦ subst (Contains starts) (sym none) are.0
    | inr is ↦ is
  ];
  before = greatest_before starts asked;
  last = greatest_last starts asked;
}

-- the first of one more
pub first-more : (starts : List ℕ) (start : ℕ) → (0 < length starts → slice_get starts 0 ≡ Some 0) → (length starts ≡ 0 → start ≡ 0) → 0 < length (starts ++ start ∷ []) → slice_get (starts ++ start ∷ []) 0 ≡ Some 0
first-more [] start first none some = ap (λ (n : ℕ). Some n) (none refl)
first-more (s ∷ ss) start first none some = first (omega arith)
