-- The least of what a test takes, and how many it takes.
use Rattle.std.proofs.Common.{◌≡◌, ℕ, ◌+◌, ◌-◌, ◌*◌, ◌/◌, ◌%◌, ◌<◌, ◌≤◌, zero, suc, min, Bool, true, false, ◌&&◌, cond, List, refl, sym, ◌∙◌, ap, inl, inr, arith}
use Rattle.std.specs.Prelude.{Some, None}
use Rattle.std.proofs.Math.Nat.{mul-zero, mul-suc, one-mul}
use Rattle.std.proofs.lemmas.Bool.{le-leb, lt-leb, cases_lt, and_right}
use Rattle.rtsp_record.specs.declared.holdings.Whole.{Whole}
use Rattle.rtsp_record.specs.Sums.{one_if}
use Rattle.rtsp_record.specs.Choices.{least_of, count_of, from_on, least_pair_by, least_port_by, least_chan_by}
use Rattle.rtsp_record.proofs.Choices.{least_step, least_end, chan_start}
use Rattle.rtsp_pools.specs.Bits.{bit_of, count_below}

module _ (step : ℕ) (takes : ℕ → Bool) (p n : ℕ) where
  least_at : (d i k : ℕ) → i + d ≡ k → k < n → ((j : ℕ) → j < k → takes (p + step * j) ≡ false) → takes (p + step * k) ≡ true
      → least_of step takes (p + step * i) (n - i) ≡ Some (p + step * k)
  least_at zero i k e lt before here =
      let same : k ≡ i = omega (arith, e) in
      least_step step takes p i n (omega (arith, same, lt))
      ∙ ap (λ t. cond t (Some (p + step * i)) (least_of step takes (p + step * (i + 1)) (n - (i + 1)))) (ap (λ i. takes (p + step * i)) (sym same) ∙ here)
      ∙ ap (λ k. Some (p + step * k)) (sym same)
  least_at (suc d) i k e lt before here =
      least_step step takes p i n (omega (arith, e, lt))
      ∙ ap (λ t. cond t (Some (p + step * i)) (least_of step takes (p + step * (i + 1)) (n - (i + 1)))) (before i (omega (arith, e)))
      ∙ least_at d (i + 1) k (omega (arith, e)) lt before here

  least_none : (d i : ℕ) → i + d ≡ n → ((j : ℕ) → j < n → takes (p + step * j) ≡ false) → least_of step takes (p + step * i) (n - i) ≡ None
  least_none zero i e h = least_end step takes (p + step * i) (n - i) (omega (arith, e))
  least_none (suc d) i e h =
      least_step step takes p i n (omega (arith, e))
      ∙ ap (λ t. cond t (Some (p + step * i)) (least_of step takes (p + step * (i + 1)) (n - (i + 1)))) (h i (omega (arith, e)))
      ∙ least_none d (i + 1) (omega (arith, e)) h

  all : least_of step takes p n ≡ least_of step takes (p + step * 0) (n - 0)
  all = let first : p ≡ p + step * 0 = omega (arith, mul-zero step) in let whole : n ≡ n - 0 = omega arith in λ t. least_of step takes (first t) (whole t)

  pub least_is : (k : ℕ) → k < n → ((j : ℕ) → j < k → takes (p + step * j) ≡ false) → takes (p + step * k) ≡ true → least_of step takes p n ≡ Some (p + step * k)
  least_is k lt before here = all ∙ least_at k 0 k (omega arith) lt before here

  pub least_is_none : ((j : ℕ) → j < n → takes (p + step * j) ≡ false) → least_of step takes p n ≡ None
  least_is_none h = all ∙ least_none n 0 (omega arith) h

-- The least from a number on, where `start` is the first place that isn't below it.
module _ (step : ℕ) (free : ℕ → Bool) (p n from start : ℕ) (early : (j : ℕ) → j < start → p + step * j < from) (late : (j : ℕ) → start ≤ j → from ≤ p + step * j) where
  unfit : (j : ℕ) → (start ≤ j → free (p + step * j) ≡ false) → from_on from free (p + step * j) ≡ false
  unfit j none =
      elim (cases_lt j start) [
        | inl below ↦ ap (λ u. u && free (p + step * j)) (lt-leb from (p + step * j) (early j below))
        | inr after ↦ and_right _ _ (none after)
      ]

  from_found : (k : ℕ) → k < n → start ≤ k → free (p + step * k) ≡ true → ((j : ℕ) → start ≤ j → j < k → free (p + step * j) ≡ false)
      → least_of step (from_on from free) p n ≡ Some (p + step * k)
  from_found k lt after is before =
      least_is step (from_on from free) p n k lt (λ j below. unfit j (λ after. before j after below))
      (ap (λ u. u && free (p + step * k)) (le-leb from (p + step * k) (late k after)) ∙ is)

  from_missing : ((j : ℕ) → start ≤ j → j < n → free (p + step * j) ≡ false) → least_of step (from_on from free) p n ≡ None
  from_missing none = least_is_none step (from_on from free) p n (λ j lt. unfit j (λ after. none j after lt))

module _ (free : ℕ → Bool) (w : Whole) (from start : ℕ) (starts : start ≡ (from - w.first_port) / 2 + min 1 ((from - w.first_port) % 2)) where
  early : (j : ℕ) → j < start → w.first_port + 2 * j < from
  early j below = omega (arith, below, starts)

  late : (j : ℕ) → start ≤ j → from ≤ w.first_port + 2 * j
  late j after = omega (arith, after, starts)

  pub pair_found : (k : ℕ) → k < w.pairs → start ≤ k → free (w.first_port + 2 * k) ≡ true → ((j : ℕ) → start ≤ j → j < k → free (w.first_port + 2 * j) ≡ false)
      → Some (w.first_port + 2 * k) ≡ least_pair_by free w from
  unfolding least_pair_by
  pair_found k lt after is before = sym (from_found 2 free w.first_port w.pairs from start early late k lt after is before)

  pub pair_missing : ((j : ℕ) → start ≤ j → j < w.pairs → free (w.first_port + 2 * j) ≡ false) → None ≡ least_pair_by free w from
  unfolding least_pair_by
  pair_missing none = sym (from_missing 2 free w.first_port w.pairs from start early late none)

module _ (free : ℕ → Bool) (w : Whole) (from start : ℕ) (starts : start ≡ from - w.first_port) where
  place : (j : ℕ) → w.first_port + 1 * j ≡ w.first_port + j
  place j = omega (arith, one-mul j)

  before_from : (j : ℕ) → j < start → w.first_port + 1 * j < from
  before_from j below = omega (arith, below, starts, one-mul j)

  after_from : (j : ℕ) → start ≤ j → from ≤ w.first_port + 1 * j
  after_from j after = omega (arith, after, starts, one-mul j)

  pub port_found : (k : ℕ) → k < 2 * w.pairs → start ≤ k → free (w.first_port + k) ≡ true → ((j : ℕ) → start ≤ j → j < k → free (w.first_port + j) ≡ false)
      → Some (w.first_port + k) ≡ least_port_by free w from
  unfolding least_port_by
  port_found k lt after is before =
      ap (λ q. Some q) (sym (place k))
      ∙ sym (from_found 1 free w.first_port (2 * w.pairs) from start before_from after_from k lt after (ap free (place k) ∙ is) (λ j later below. ap free (place j) ∙ before j later below))

  pub port_missing : ((j : ℕ) → start ≤ j → j < 2 * w.pairs → free (w.first_port + j) ≡ false) → None ≡ least_port_by free w from
  unfolding least_port_by
  port_missing none = sym (from_missing 1 free w.first_port (2 * w.pairs) from start before_from after_from (λ j later lt. ap free (place j) ∙ none j later lt))

module _ (takes : ℕ → Bool) where
  pub chan_found : (k : ℕ) → k < 128 → ((j : ℕ) → j < k → takes (2 * j) ≡ false) → takes (2 * k) ≡ true → Some (2 * k) ≡ least_chan_by takes
  chan_found k lt before is =
      let same : (j : ℕ) → 0 + 2 * j ≡ 2 * j = λ j. omega arith in
      ap (λ n. Some n) (sym (same k)) ∙ sym (least_is 2 takes 0 128 k lt (λ j below. ap takes (same j) ∙ before j below) (ap takes (same k) ∙ is)) ∙ chan_start takes

  pub chan_missing : ((j : ℕ) → j < 128 → takes (2 * j) ≡ false) → None ≡ least_chan_by takes
  chan_missing none =
      let same : (j : ℕ) → 0 + 2 * j ≡ 2 * j = λ j. omega arith in
      sym (least_is_none 2 takes 0 128 (λ j lt. ap takes (same j) ∙ none j lt)) ∙ chan_start takes

-- How many a test takes.

pub count_none : (step : ℕ) (takes : ℕ → Bool) (p : ℕ) → count_of step takes p 0 ≡ 0
unfolding count_of
count_none step takes p = refl

count_next : (step : ℕ) (takes : ℕ → Bool) (p n : ℕ) → count_of step takes p (suc n) ≡ one_if (takes p) + count_of step takes (p + step) n
unfolding count_of
count_next step takes p n = refl

pub count_end : (step : ℕ) (takes : ℕ → Bool) (p n : ℕ) → count_of step takes p (suc n) ≡ count_of step takes p n + one_if (takes (p + step * n))
count_end step takes p zero =
    let here : p ≡ p + step * 0 = omega (arith, mul-zero step) in
    omega (arith, count_next step takes p 0, count_none step takes p, count_none step takes (p + step), ap (λ q. one_if (takes q)) here)
count_end step takes p (suc n) =
    let here : p + step + step * n ≡ p + step * suc n = omega (arith, mul-suc step n) in
    omega (arith, count_next step takes p (suc n), count_end step takes (p + step) n, count_next step takes p n, ap (λ q. one_if (takes q)) here)

pub counted : (step : ℕ) (words : List ℕ) (takes : ℕ → Bool) (p n : ℕ) → ((j : ℕ) → j < n → bit_of words j ≡ one_if (takes (p + step * j))) → count_below words n ≡ count_of step takes p n
unfolding count_below
counted step words takes p zero same = sym (count_none step takes p)
counted step words takes p (suc n) same = omega (arith, counted step words takes p n (λ j lt. same j (omega (arith, lt))), same n (omega arith), count_end step takes p n)
