-- The lesser of each two: what a write leaves, and that the first is the least.
use Rattle.std.proofs.Common.{◌≡◌, ◌≢◌, ℕ, zero, suc, ◌+◌, ◌-◌, ◌*◌, ◌/◌, ◌%◌, ◌<◌, ◌≤◌, min, List, length, get_or, set, ◌∙◌, ap, inl, inr, arith}
use Rattle.std.proofs.lemmas.Bool.{cases_eq, cases_lt}
use Rattle.std.proofs.lemmas.List.{get_or-set_other, length-set}
use Rattle.rtsp_index.specs.Lessers.{AreLessers}

-- each but the one above an index is the lesser of two
pub record AreWritten (places : ℕ) (ms : List ℕ) (below : ℕ) : Type 0 where
  pub long : length ms ≡ 2 * places
  pub from : 1 ≤ below
  pub within : below < 2 * places
  pub lesser : (i : ℕ) → 1 ≤ i → i < places → i ≢ below / 2 → get_or ms i 0 ≡ min (get_or ms (2 * i) 0) (get_or ms (2 * i + 1) 0)

-- a moment is written
pub begun : (places : ℕ) (ms : List ℕ) (index x : ℕ) → AreLessers places ms → places ≤ index → index < 2 * places → AreWritten places (set ms index x) index
begun places ms index x ok low high =
    record {
      long = length-set ms index x ∙ ok.long;
      from = omega (arith, low, high);
      within = high;
      lesser = λ i from lt apart.
          let here : get_or (set ms index x) i 0 ≡ get_or ms i 0 = get_or-set_other ms index i x 0 (λ e. absurd (omega (arith, e, low, lt))) in
          let one : get_or (set ms index x) (2 * i) 0 ≡ get_or ms (2 * i) 0 = get_or-set_other ms index (2 * i) x 0 (λ e. apart (omega (arith, e))) in
          let two : get_or (set ms index x) (2 * i + 1) 0 ≡ get_or ms (2 * i + 1) 0 = get_or-set_other ms index (2 * i + 1) x 0 (λ e. apart (omega (arith, e))) in
          omega (arith, here, one, two, ok.lesser i from lt);
    }

module _ (places : ℕ) (ms : List ℕ) (ok : AreLessers places ms) where
  -- the first is at most each
  first_below : (d i : ℕ) → i ≤ d → 1 ≤ i → i < 2 * places → get_or ms 1 0 ≤ get_or ms i 0
  first_below zero i le from lt = absurd (omega (arith, le, from))
  first_below (suc d) i le from lt =
      elim (cases_lt i 2) [
        | inl one ↦ let same : i ≡ 1 = omega (arith, one, from) in omega (arith, ap (λ n. get_or ms n 0) same)
        | inr more ↦
            let up = first_below d (i / 2) (omega (arith, le, more)) (omega (arith, more)) (omega (arith, lt)) in
            let two = ok.lesser (i / 2) (omega (arith, more)) (omega (arith, lt)) in
            elim (cases_eq (i % 2) 0) [
              | inl even ↦ let at : i ≡ 2 * (i / 2) = omega (arith, even) in omega (arith, up, two, ap (λ n. get_or ms n 0) at)
              | inr odd ↦ let at : i ≡ 2 * (i / 2) + 1 = omega (arith, odd) in omega (arith, up, two, ap (λ n. get_or ms n 0) at)
            ]
      ]

  -- each is one of the moments
  one_of : (d i : ℕ) → 2 * places ≤ i + d → 1 ≤ i → i < 2 * places → (p : ℕ) × (p < places) × (get_or ms (places + p) 0 ≡ get_or ms i 0)
  one_of zero i le from lt = absurd (omega (arith, le, lt))
  one_of (suc d) i le from lt =
      elim (cases_lt i places) [
        | inl inner ↦
            let two = ok.lesser i from inner in
            elim (cases_lt (get_or ms (2 * i) 0) (get_or ms (2 * i + 1) 0)) [
              | inl less ↦ let down = one_of d (2 * i) (omega (arith, le, from)) (omega (arith, from)) (omega (arith, inner)) in (down.0, down.1, omega (arith, down.2, two, less))
              | inr more ↦ let down = one_of d (2 * i + 1) (omega (arith, le, from)) (omega (arith, from)) (omega (arith, inner)) in (down.0, down.1, omega (arith, down.2, two, more))
            ]
        | inr leaf ↦ let at : places + (i - places) ≡ i = omega (arith, leaf) in (i - places, omega (arith, leaf, lt), ap (λ n. get_or ms n 0) at)
      ]

  pub first_least : (p : ℕ) → p < places → get_or ms 1 0 ≤ get_or ms (places + p) 0
  first_least p lt = first_below (places + p) (places + p) (omega arith) (omega (arith, lt)) (omega (arith, lt))

  pub first_there : 0 < places → (p : ℕ) × (p < places) × (get_or ms (places + p) 0 ≡ get_or ms 1 0)
  first_there some = one_of (2 * places) 1 (omega arith) (omega arith) (omega (arith, some))
