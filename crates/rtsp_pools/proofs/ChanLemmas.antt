-- Channels as bits of their connection.
use Rattle.std.proofs.Common.{◌≡◌, ◌==◌, ℕ, suc, ◌+◌, ◌-◌, ◌*◌, ◌/◌, ◌^◌, ◌<◌, ◌≤◌, Bool, true, false, ◌&&◌, refl, sym, ◌∙◌, ap, arith}
use Rattle.std.specs.Prelude.{Some, None}
use Rattle.std.specs.Int.{bit_at, bit_not, trailing_zeros, w128}
use Rattle.std.proofs.lemmas.Nat.Bits.{bit_at-lt, bit_at_not, bit_at_ones, bit_at-trailing_zeros}
use Rattle.rtsp_pools.specs.declared.chan_pool.ChanPool.{ChanPool}
use Rattle.rtsp_record.specs.Sums.{one_if}
use Rattle.rtsp_record.specs.Choices.{count_of, least_chan_by}
use Rattle.rtsp_record.proofs.Sound.{at_most_one}
use Rattle.rtsp_pools.specs.Pools.{held_bits, is_free_channel, is_free_chan}
use Rattle.rtsp_pools.proofs.LeastLemmas.{chan_found, chan_missing, count_end}

pub twice : (t : Bool) → (t && t) ≡ t
twice true = refl
twice false = refl

-- two channels from an even one on are one bit
pub chan_at : (pool : ChanPool) (c i : ℕ) → is_free_chan pool c (2 * i) ≡ (bit_at (held_bits pool c) i == 0)
chan_at pool c i =
    let one : 2 * i / 2 ≡ i = omega arith in
    let two : (2 * i + 1) / 2 ≡ i = omega arith in
    (λ t. (bit_at (held_bits pool c) (one t) == 0) && (bit_at (held_bits pool c) (two t) == 0)) ∙ twice _

-- the bits that are off
abbrev pub off : ℕ → ℕ
off bits = bit_not w128 bits

module _ (bits : ℕ) (fits : bits < 2 ^ 128) where
  pub all_on : off bits ≡ 0 → (i : ℕ) → i < 128 → bit_at bits i ≡ 1
  all_on none i lt = ap (λ n. bit_at n i) (all_of bits fits none) ∙ bit_at_ones 128 i lt
    where
      all_of : (bits : ℕ) → bits < 2 ^ 128 → bit_not w128 bits ≡ 0 → bits ≡ 2 ^ 128 - 1
      all_of bits fits none = omega (arith, fits, none)

  pub is_on : (i : ℕ) → i < 128 → bit_at (off bits) i ≡ 0 → bit_at bits i ≡ 1
  is_on i lt none = omega (arith, none, bit_at_not w128 bits i fits lt, bit_at-lt bits i)

  pub is_off : (i : ℕ) → i < 128 → bit_at (off bits) i ≡ 1 → bit_at bits i ≡ 0
  is_off i lt one = omega (arith, one, bit_at_not w128 bits i fits lt)

  small : off bits < 2 ^ 128
  small = omega arith

  pub lowest_off : (off bits ≡ 0 → ⊥) → (trailing_zeros w128 (off bits) < 128) × (bit_at (off bits) (trailing_zeros w128 (off bits)) ≡ 1) × ((i : ℕ) → i < trailing_zeros w128 (off bits) → bit_at (off bits) i ≡ 0)
  lowest_off some = bit_at-trailing_zeros w128 (off bits) (omega (arith, some)) small

module _ (pool : ChanPool) (c bits : ℕ) (are : bits ≡ held_bits pool c) (fits : bits < 2 ^ 128) where
  -- where the bit is on, the channels aren't free, and where it is off, they are
  pub not_free : (i : ℕ) → bit_at bits i ≡ 1 → is_free_chan pool c (2 * i) ≡ false
  not_free i on = chan_at pool c i ∙ ap (λ b. bit_at b i == 0) (sym are) ∙ ap (λ n. n == 0) on

  pub free_at : (i : ℕ) → bit_at bits i ≡ 0 → is_free_chan pool c (2 * i) ≡ true
  free_at i none = chan_at pool c i ∙ ap (λ b. bit_at b i == 0) (sym are) ∙ ap (λ n. n == 0) none

  pub none_is_free : off bits ≡ 0 → None ≡ least_chan_by (is_free_chan pool c)
  none_is_free none = chan_missing (is_free_chan pool c) (λ j lt. not_free j (all_on bits fits none j lt))

  pub lowest_is_free : (off bits ≡ 0 → ⊥) → Some (2 * trailing_zeros w128 (off bits)) ≡ least_chan_by (is_free_chan pool c)
  lowest_is_free some =
      let lowest = lowest_off bits fits some in
      let k = trailing_zeros w128 (off bits) in
      chan_found (is_free_chan pool c) k lowest.0 (λ j below. not_free j (is_on bits fits j (omega (arith, below, lowest.0)) (lowest.2 j below))) (free_at k (is_off bits fits k lowest.0 lowest.1))

  -- of bits that aren't 0 one is on
  pub some_held : (bits ≡ 0 → ⊥) → (l : ℕ) × (is_free_channel pool c l ≡ false)
  some_held some =
      let lowest = bit_at-trailing_zeros w128 bits (omega (arith, some)) fits in
      let i = trailing_zeros w128 bits in
      let at : 2 * i / 2 ≡ i = omega arith in
      (2 * i, ap (λ k. bit_at (held_bits pool c) k == 0) at ∙ ap (λ b. bit_at b i == 0) (sym are) ∙ ap (λ n. n == 0) lowest.1)

-- one more pair looked at
pub counted_one : (takes : ℕ → Bool) (count n more : ℕ) (t : Bool) → (count ≤ n) × (count ≡ count_of 2 takes 0 n) → takes (2 * n) ≡ t → more ≡ count + one_if t → (more ≤ n + 1) × (more ≡ count_of 2 takes 0 (n + 1))
counted_one takes count n more t was is now =
    let next : suc n ≡ n + 1 = omega arith in
    let at : 0 + 2 * n ≡ 2 * n = omega arith in
    let last : one_if (takes (0 + 2 * n)) ≡ one_if t = ap one_if (ap takes at ∙ is) in
    let more_is : more ≡ count_of 2 takes 0 (suc n) = omega (arith, now, was.1, last, count_end 2 takes 0 n) in
    (omega (arith, was.0, now, at_most_one t), more_is ∙ ap (count_of 2 takes 0) next)
