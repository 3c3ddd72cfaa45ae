-- What a test takes of some numbers, counted one after another from the least.
use Rattle.std.proofs.Common.{◌≡◌, ℕ, ◌+◌, ◌*◌, ◌≤◌, ◌<◌, zero, suc, Bool, true, false, ◌&&◌, cond, refl, sym, ◌∙◌, ap, arith}
use Rattle.std.specs.Prelude.{Some, None, nat_le}
use Rattle.std.proofs.lemmas.Bool.{leb-true, le-leb, lt-leb, and_parts}
use Rattle.rtsp_record.specs.declared.holdings.Whole.{Whole}
use Rattle.rtsp_record.specs.Sums.{one_if}
use Rattle.rtsp_record.specs.Choices.{least_of, count_of, from_on, least_pair_by}
use Rattle.rtsp_record.proofs.Choices.{least_found, pair_found}
use Rattle.rtsp_record.proofs.Sound.{at_most_one}
use Rattle.rtsp_record.proofs.Ports.{count_same}

-- from a number on, and before it
on_from : (from q : ℕ) (takes : ℕ → Bool) → from ≤ q → from_on from takes q ≡ takes q
on_from from q takes le = ap (λ t. t && takes q) (le-leb from q le)

off_before : (from q : ℕ) (takes : ℕ → Bool) → q < from → from_on from takes q ≡ false
off_before from q takes lt = ap (λ t. t && takes q) (lt-leb from q lt)

pub count_few : (step : ℕ) (takes : ℕ → Bool) (p n : ℕ) → count_of step takes p n ≤ n
unfolding count_of
count_few step takes p zero = omega arith
count_few step takes p (suc n) = omega (arith, at_most_one (takes p), count_few step takes (p + step) n)

-- after the least one there is one less
next_of : (takes : ℕ → Bool) (from p n l : ℕ) → least_of 2 (from_on from takes) p n ≡ Some l → count_of 2 (from_on from takes) p n ≡ 1 + count_of 2 (from_on (l + 1) takes) p n
unfolding least_of count_of
next_of takes from p zero l is = absurd cc
next_of takes from p (suc n) l is =
    elim (from_on from takes p) as (λ t. from_on from takes p ≡ t → cond t (Some p) (least_of 2 (from_on from takes) (p + 2) n) ≡ Some l → one_if (from_on from takes p) + count_of 2 (from_on from takes) (p + 2) n ≡ 1 + (one_if (from_on (l + 1) takes p) + count_of 2 (from_on (l + 1) takes) (p + 2) n)) [
      | true ↦ λ on e.
          let same : p ≡ l = cc in
          let low : from ≤ p = leb-true from p (and_parts (nat_le from p) (takes p) on).0 in
          let rest = count_same 2 (from_on from takes) (from_on (l + 1) takes) (p + 2) n (λ q le. on_from from q takes (omega (arith, low, le)) ∙ sym (on_from (l + 1) q takes (omega (arith, same, le)))) in
          omega (arith, ap one_if on, ap one_if (off_before (l + 1) p takes (omega (arith, same))), rest)
      | false ↦ λ off e.
          let found = least_found 2 (from_on from takes) (p + 2) n l e in
          omega (arith, ap one_if off, ap one_if (off_before (l + 1) p takes (omega (arith, found.at))), next_of takes from (p + 2) n l e)
    ] refl is

-- where none is found there is none
none_of : (takes : ℕ → Bool) (p n : ℕ) → least_of 2 takes p n ≡ None → count_of 2 takes p n ≡ 0
unfolding least_of count_of
none_of takes p zero is = refl
none_of takes p (suc n) is =
    elim (takes p) as (λ t. takes p ≡ t → cond t (Some p) (least_of 2 takes (p + 2) n) ≡ None → one_if (takes p) + count_of 2 takes (p + 2) n ≡ 0) [
      | true ↦ λ _ e. absurd cc
      | false ↦ λ off e. omega (arith, ap one_if off, none_of takes (p + 2) n e)
    ] refl is

-- the pairs of the whole that the test takes, counted from 0 on
pub pairs_begin : (takes : ℕ → Bool) (w : Whole) → count_of 2 (from_on 0 takes) w.first_port w.pairs ≡ count_of 2 takes w.first_port w.pairs
pairs_begin takes w = count_same 2 (from_on 0 takes) takes w.first_port w.pairs (λ q _. on_from 0 q takes (omega arith))

pub pairs_next : (takes : ℕ → Bool) (w : Whole) (from l : ℕ) → least_pair_by takes w from ≡ Some l → count_of 2 (from_on from takes) w.first_port w.pairs ≡ 1 + count_of 2 (from_on (l + 1) takes) w.first_port w.pairs
unfolding least_pair_by
pairs_next takes w from l is = next_of takes from w.first_port w.pairs l is

pub pairs_end : (takes : ℕ → Bool) (w : Whole) (from : ℕ) → least_pair_by takes w from ≡ None → count_of 2 (from_on from takes) w.first_port w.pairs ≡ 0
unfolding least_pair_by
pairs_end takes w from is = none_of (from_on from takes) w.first_port w.pairs is

-- the pair that is found is in the whole, and not below the number from which it is looked for
pub record PairFrom (w : Whole) (from l : ℕ) : Type 0 where
  pub low : from ≤ l
  pub high : l < w.first_port + 2 * w.pairs

pub pair_from : (takes : ℕ → Bool) (w : Whole) (from l : ℕ) → least_pair_by takes w from ≡ Some l → PairFrom w from l
pair_from takes w from l is =
    let found = pair_found takes w from l is in
    record { low = leb-true from l (and_parts (nat_le from l) (takes l) found.taken).0; high = omega (arith, found.at, found.within) }
