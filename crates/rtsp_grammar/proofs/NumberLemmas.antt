-- Reading a number that is cut off at a limit.
use Rattle.std.proofs.Common.{◌≡◌, ℕ, ◌+◌, ◌-◌, ◌*◌, ◌<◌, ◌≤◌, min, List, [], ◌∷◌, length, get_or, drop, sym, ap, ◌∙◌, arith}
use Rattle.std.proofs.Common.{inl, inr}
use Rattle.std.proofs.lemmas.Bool.{cases_lt}
use Rattle.std.proofs.lemmas.List.{drop_more}
use Rattle.rtsp_grammar.specs.Number.{number_after}

number_grows : (n : ℕ) (cs : List ℕ) → n ≤ number_after n cs
number_grows n [] = omega arith
number_grows n (c ∷ cs) = let h = number_grows (10 * n + (c - 48)) cs in omega arith

-- a number that is cut off stays so
cut_off : (limit n : ℕ) (cs : List ℕ) → min (number_after (min n limit) cs) limit ≡ min (number_after n cs) limit
cut_off limit n [] = omega arith
cut_off limit n (c ∷ cs) = elim (cases_lt limit n) [
  | inl lt ↦
      let a = number_grows (10 * min n limit + (c - 48)) cs in
      let b = number_grows (10 * n + (c - 48)) cs in
      omega arith
  | inr le ↦
      let same : min n limit ≡ n = omega arith in
      ap (λ (k : ℕ). min (number_after (10 * k + (c - 48)) cs) limit) same
]

pub step_number : (digits : List ℕ) (i value new total : ℕ) → i < length digits → new ≡ min (10 * value + (get_or digits i 0 - 48)) 100000
    → min (number_after value (drop i digits)) 100000 ≡ total → min (number_after new (drop (i + 1) digits)) 100000 ≡ total
step_number digits i value new total lt e so_far =
    ap (λ (k : ℕ). min (number_after k (drop (i + 1) digits)) 100000) e ∙ cut_off 100000 (10 * value + (get_or digits i 0 - 48)) (drop (i + 1) digits)
    ∙ ap (λ (ds : List ℕ). min (number_after value ds) 100000) (sym (drop_more digits i 0 lt)) ∙ so_far
