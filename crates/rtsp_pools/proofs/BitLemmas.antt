-- Words and their summary.
use Rattle.std.proofs.Common.{◌≡◌, ◌≢◌, ℕ, zero, suc, ◌+◌, ◌-◌, ◌*◌, ◌/◌, ◌%◌, ◌^◌, ◌<◌, ◌≤◌, List, length, replicate, get_or, set, bit_and, w64, true, false, cond, not, nat_eq, refl, sym, ap, ◌∙◌, inl, inr, arith, get_or-set_same, get_or-set_other}
use Rattle.std.specs.Int.{bit_at, trailing_zeros}
use Rattle.std.proofs.lemmas.Nat.{and_le_l}
use Rattle.std.proofs.lemmas.Nat.Bits.{bit_at-zero, bit_at-lt, bit_at_and, bit_at_mask_inside, bit_at_mask_below, bit_at-trailing_zeros, ones_shl, same_from_bits_below}
use Rattle.std.proofs.lemmas.Bool.Decides.{nat_tests}
use Rattle.std.proofs.lemmas.Bool.{cases_eq, cases_lt}
use Rattle.std.proofs.lemmas.List.{get_or_past, get_or_default}
use Rattle.rtsp_pools.specs.Bits.{bit_of, has, count_below, IsSummed}

-- bits with those below a place masked
abbrev pub rest_of : ℕ → ℕ → ℕ
rest_of bits low = bit_and bits (18446744073709551615 * 2 ^ low % 18446744073709551616)

module _ (bits low : ℕ) (within : low < 64) where
  mask_is : 18446744073709551615 * 2 ^ low % 18446744073709551616 ≡ 2 ^ 64 - 2 ^ low
  mask_is = ones_shl 64 low (omega arith)

  pub kept : (j : ℕ) → low ≤ j → j < 64 → bit_at (rest_of bits low) j ≡ bit_at bits j
  kept j from below =
      let small = bit_at-lt bits j in
      let both = bit_at_and bits (2 ^ 64 - 2 ^ low) j in
      let one = bit_at_mask_inside low 64 j from below in
      ap (λ m. bit_at (bit_and bits m) j) mask_is ∙ omega (arith, both, one, small)

  pub cut : (j : ℕ) → j < low → bit_at (rest_of bits low) j ≡ 0
  cut j below =
      let both = bit_at_and bits (2 ^ 64 - 2 ^ low) j in
      let none = bit_at_mask_below low 64 j below in
      ap (λ m. bit_at (bit_and bits m) j) mask_is ∙ omega (arith, both, none)

  pub none_from : rest_of bits low ≡ 0 → (j : ℕ) → low ≤ j → j < 64 → bit_at bits j ≡ 0
  none_from is j from below = sym (kept j from below) ∙ ap (λ n. bit_at n j) is ∙ bit_at-zero j

  module _ (fits : bits < 2 ^ 64) (there : rest_of bits low ≢ 0) where
    some : 0 < rest_of bits low
    some = omega (arith, there)

    small : rest_of bits low < 2 ^ 64
    small = omega (arith, and_le_l bits (18446744073709551615 * 2 ^ low % 18446744073709551616), fits)

    pub at_lowest : (trailing_zeros w64 (rest_of bits low) < 64) × (low ≤ trailing_zeros w64 (rest_of bits low)) × (bit_at bits (trailing_zeros w64 (rest_of bits low)) ≡ 1)
    at_lowest =
        let lowest = bit_at-trailing_zeros w64 (rest_of bits low) some small in
        let place = trailing_zeros w64 (rest_of bits low) in
        let from : low ≤ place = elim (cases_lt place low) [
          | inl below ↦ absurd (omega (arith, cut place below, lowest.1))
          | inr from ↦ from
        ] in
        (lowest.0, from, sym (kept place from lowest.0) ∙ lowest.1)

    pub below_lowest : (j : ℕ) → low ≤ j → j < trailing_zeros w64 (rest_of bits low) → bit_at bits j ≡ 0
    below_lowest j from below =
        let lowest = bit_at-trailing_zeros w64 (rest_of bits low) some small in
        sym (kept j from (omega (arith, lowest.0, below))) ∙ lowest.2 j below

pub positive : (n k : ℕ) → bit_at n k ≡ 1 → 0 < n
positive zero k h = absurd (omega (arith, bit_at-zero k, h))
positive (suc n) k h = omega arith

-- A word written.
module _ (words : List ℕ) (word number b : ℕ) (within : number / 64 < length words) (here : bit_at word (number % 64) ≡ b) (others : (i : ℕ) → i < 64 → i ≢ number % 64 → bit_at word i ≡ bit_at (get_or words (number / 64) 0) i) where
  pub written_same : bit_of (set words (number / 64) word) number ≡ b
  written_same = ap (λ n. bit_at n (number % 64)) (get_or-set_same words (number / 64) word 0 within) ∙ here

  pub written_other : (k : ℕ) → k ≢ number → bit_of (set words (number / 64) word) k ≡ bit_of words k
  written_other k differs =
      elim (cases_eq (k / 64) (number / 64)) [
        | inl same ↦ rw (same, get_or-set_same words (number / 64) word 0 within) (others (k % 64) (omega arith) (λ index. differs (omega arith)))
        | inr apart ↦ ap (λ n. bit_at n (k % 64)) (get_or-set_other words (number / 64) (k / 64) word 0 apart)
      ]

-- How many there are.
pub count_same : (old new : List ℕ) (n : ℕ) → ((k : ℕ) → k < n → bit_of new k ≡ bit_of old k) → count_below new n ≡ count_below old n
unfolding count_below
count_same old new zero h = refl
count_same old new (suc n) h = omega (arith, count_same old new n (λ k lt. h k (omega arith)), h n (omega arith))

pub count_more : (old new : List ℕ) (k n : ℕ) → k < n → bit_of old k ≡ 0 → bit_of new k ≡ 1 → ((i : ℕ) → i ≢ k → bit_of new i ≡ bit_of old i) → count_below new n ≡ count_below old n + 1
unfolding count_below
count_more old new k zero lt was is others = absurd (omega (arith, lt))
count_more old new k (suc n) lt was is others =
    elim (cases_eq k n) [
      | inl same ↦ omega (arith, count_same old new n (λ i below. others i (λ e. absurd (omega (arith, e, same, below)))), ap (bit_of old) same, ap (bit_of new) same, was, is)
      | inr apart ↦ omega (arith, count_more old new k n (omega (arith, lt, apart)) was is others, others n (λ e. apart (sym e)))
    ]

pub count_small : (words : List ℕ) (n : ℕ) → count_below words n ≤ n
unfolding count_below
count_small words zero = omega arith
count_small words (suc n) = omega (arith, count_small words n, bit_at-lt (get_or words (n / 64) 0) (n % 64))

pub count_none : (words : List ℕ) (n : ℕ) → ((k : ℕ) → bit_of words k ≡ 0) → count_below words n ≡ 0
unfolding count_below
count_none words zero h = refl
count_none words (suc n) h = omega (arith, count_none words n h, h n)

zeros : (n i z : ℕ) → get_or (replicate n z) i z ≡ z
zeros zero i z = refl
zeros (suc n) zero z = refl
zeros (suc n) (suc i) z = zeros n i z

pub no_bit : (n k z : ℕ) → z ≡ 0 → bit_of (replicate n z) k ≡ 0
no_bit n k z is = rw is (ap (λ w. bit_at w (k % 64)) (zeros n (k / 64) 0) ∙ bit_at-zero (k % 64))

pub replicate_len : (n z : ℕ) → length (replicate n z) ≡ n
replicate_len zero z = refl
replicate_len (suc n) z = ap suc (replicate_len n z)

pub flag_off : (w b : ℕ) → b ≡ cond (not (nat_eq w 0)) 1 0 → b ≡ 0 → w ≡ 0
flag_off w b h z = grind (arith, nat_tests)

pub flag_on : (w b : ℕ) → b ≡ cond (not (nat_eq w 0)) 1 0 → b ≡ 1 → 0 < w
flag_on w b h z = grind (arith, nat_tests)

is_one : (n : ℕ) → nat_eq n 1 ≡ true → n ≡ 1
is_one n h = grind (arith, nat_tests)

not_one : (n : ℕ) → n < 2 → nat_eq n 1 ≡ false → n ≡ 0
not_one n lt h = grind (arith, nat_tests)

-- a word of no bits is 0
pub no_bits : (n : ℕ) → n < 2 ^ 64 → ((i : ℕ) → 0 ≤ i → i < 64 → bit_at n i ≡ 0) → n ≡ 0
no_bits n fits h = same_from_bits_below 64 n 0 fits (omega arith) (λ i lt. h i (omega arith) lt ∙ sym (bit_at-zero i))

-- a number past the words has no bit
pub beyond : (words : List ℕ) (k : ℕ) → length words ≤ k / 64 → bit_of words k ≡ 0
beyond words k past = ap (λ n. bit_at n (k % 64)) (get_or_past words (k / 64) 0 past) ∙ bit_at-zero (k % 64)

-- a bit of a word as that of its number
pub placed : (words : List ℕ) (i b : ℕ) → b < 64 → bit_of words (i * 64 + b) ≡ bit_at (get_or words i 0) b
placed words i b small =
    let word : (i * 64 + b) / 64 ≡ i = omega (arith, small) in
    let place : (i * 64 + b) % 64 ≡ b = omega (arith, small) in
    λ t. bit_at (get_or words (word t) 0) (place t)

-- no bit up to a place of a word, where none was up to a lower place of it
pub none_below : (words : List ℕ) (from i low top : ℕ) → ((j : ℕ) → from ≤ j → j < i * 64 + low → bit_of words j ≡ 0)
    → ((b : ℕ) → low ≤ b → b < top → bit_at (get_or words i 0) b ≡ 0) → top ≤ 64 → (j : ℕ) → from ≤ j → j < i * 64 + top → bit_of words j ≡ 0
none_below words from i low top before here small j after below =
    elim (cases_lt j (i * 64 + low)) [
      | inl early ↦ before j after early
      | inr late ↦
          let at : j / 64 ≡ i = omega (arith, late, below, small) in
          ap (λ w. bit_at (get_or words w 0) (j % 64)) at ∙ here (j % 64) (omega (arith, late, at)) (omega (arith, below, at))
    ]

-- no bit at all, where none was up to a place that is past the words
pub none_past : (words : List ℕ) (from i low : ℕ) → ((j : ℕ) → from ≤ j → j < i * 64 + low → bit_of words j ≡ 0) → length words ≤ i → (j : ℕ) → from ≤ j → bit_of words j ≡ 0
none_past words from i low before past j after =
    elim (cases_lt j (i * 64 + low)) [
      | inl early ↦ before j after early
      | inr late ↦ beyond words j (omega (arith, late, past))
    ]

-- a word that isn't 0 is one of them
pub inside : (words : List ℕ) (i : ℕ) → 0 < get_or words i 0 → i < length words
inside words i some =
    elim (cases_lt i (length words)) [
      | inl lt ↦ lt
      | inr past ↦ absurd (omega (arith, some, get_or_past words i 0 past))
    ]

pub summed_none : (limit long tall : ℕ) → limit ≤ 64 * long → long ≤ 64 * tall → tall ≤ 1024 → IsSummed limit (replicate long 0) (replicate tall 0) 0
summed_none limit long tall all each few =
    record {
      long = omega (arith, replicate_len long 0, all);
      tall = omega (arith, replicate_len long 0, replicate_len tall 0, each);
      few = omega (arith, replicate_len tall 0, few);
      none = λ w bit. zeros long w 0;
      some = λ w bit. absurd (omega (arith, bit, no_bit tall w 0 refl));
      past = λ k late. no_bit long k 0 refl;
      counted = sym (count_none (replicate long 0) limit (λ k. no_bit long k 0 refl));
    }

-- The summary goes with the words.
module _ (limit count more number b : ℕ) (words summary next sum : List ℕ) (sound : IsSummed limit words summary count)
    (long : length next ≡ length words) (tall : length sum ≡ length summary)
    (apart : (w : ℕ) → w ≢ number / 64 → get_or next w 0 ≡ get_or words w 0)
    (others : (k : ℕ) → k ≢ number → bit_of next k ≡ bit_of words k)
    (here : bit_of sum (number / 64) ≡ b) (none : b ≡ 0 → get_or next (number / 64) 0 ≡ 0) (some : b ≡ 1 → 0 < get_or next (number / 64) 0)
    (elsewhere : (w : ℕ) → w ≢ number / 64 → bit_of sum w ≡ bit_of summary w) (within : number < limit) (counted : more ≡ count_below next limit) where
  pub summed_with : IsSummed limit next sum more
  summed_with = record {
    long = omega (arith, long, sound.long);
    tall = omega (arith, long, tall, sound.tall);
    few = omega (arith, tall, sound.few);
    none = λ w bit. elim (cases_eq w (number / 64)) [
      | inl same ↦ rw same (none (sym here ∙ ap (bit_of sum) (sym same) ∙ bit))
      | inr other ↦ apart w other ∙ sound.none w (sym (elsewhere w other) ∙ bit)
    ];
    some = λ w bit. elim (cases_eq w (number / 64)) [
      | inl same ↦ rw same (some (sym here ∙ ap (bit_of sum) (sym same) ∙ bit))
      | inr other ↦ rw (apart w other) (sound.some w (sym (elsewhere w other) ∙ bit))
    ];
    past = λ k late. others k (λ e. absurd (omega (arith, e, late, within))) ∙ sound.past k late;
    counted = counted;
  }

-- no bit from a number on and below one in a later word
pub least_of : (limit : ℕ) (words summary : List ℕ) (count from next bit : ℕ) → IsSummed limit words summary count
    → ((i : ℕ) → from % 64 ≤ i → i < 64 → bit_at (get_or words (from / 64) 0) i ≡ 0)
    → ((w : ℕ) → from / 64 + 1 ≤ w → w < next → bit_of summary w ≡ 0)
    → bit < 64 → ((i : ℕ) → 0 ≤ i → i < bit → bit_at (get_or words next 0) i ≡ 0)
    → (j : ℕ) → from ≤ j → j < next * 64 + bit → bit_of words j ≡ 0
least_of limit words summary count from next bit sound here between small last j after before =
    elim (cases_eq (j / 64) (from / 64)) [
      | inl same ↦ rw same (here (j % 64) (omega (arith, after, same)) (omega arith))
      | inr apart ↦ elim (cases_eq (j / 64) next) [
        | inl at ↦ rw at (last (j % 64) (omega arith) (omega (arith, before, at)))
        | inr lower ↦
            let below : j / 64 < next = omega (arith, before, lower, small) in
            ap (λ n. bit_at n (j % 64)) (sound.none (j / 64) (between (j / 64) (omega (arith, after, apart)) below)) ∙ bit_at-zero (j % 64)
      ]
    ]

-- no bit from a number on where no later word has one
pub none_of : (limit : ℕ) (words summary : List ℕ) (count from : ℕ) → IsSummed limit words summary count
    → ((i : ℕ) → from % 64 ≤ i → i < 64 → bit_at (get_or words (from / 64) 0) i ≡ 0)
    → ((w : ℕ) → from / 64 + 1 ≤ w → bit_of summary w ≡ 0)
    → (j : ℕ) → from ≤ j → bit_of words j ≡ 0
none_of limit words summary count from sound here later j after =
    elim (cases_eq (j / 64) (from / 64)) [
      | inl same ↦ rw same (here (j % 64) (omega (arith, after, same)) (omega arith))
      | inr apart ↦ ap (λ n. bit_at n (j % 64)) (sound.none (j / 64) (later (j / 64) (omega (arith, after, apart)))) ∙ bit_at-zero (j % 64)
    ]

-- a number that is there is below the limit
pub below_limit : (limit : ℕ) (words summary : List ℕ) (count k : ℕ) → IsSummed limit words summary count → bit_of words k ≡ 1 → k < limit
below_limit limit words summary count k sound there =
    elim (cases_lt k limit) [
      | inl lt ↦ lt
      | inr past ↦ absurd (omega (arith, there, sound.past k past))
    ]

-- what is read at a place is the word there
pub read : (words : List ℕ) (i w : ℕ) → i < length words → w ≡ get_or words i w → w ≡ get_or words i 0
read words i w within is = is ∙ get_or_default words i w 0 within

-- what the test of a bit says
pub is_there : (words : List ℕ) (k : ℕ) → has words k ≡ true → bit_of words k ≡ 1
is_there words k h = is_one (bit_of words k) h

pub isnt_there : (words : List ℕ) (k : ℕ) → has words k ≡ false → bit_of words k ≡ 0
isnt_there words k h = not_one (bit_of words k) (bit_at-lt (get_or words (k / 64) 0) (k % 64)) h

-- a bit as a test
pub flag : (words : List ℕ) (k : ℕ) → bit_of words k ≡ cond (nat_eq (bit_of words k) 1) 1 0
flag words k = flagged (bit_of words k) (bit_at-lt (get_or words (k / 64) 0) (k % 64))
  where
    flagged : (b : ℕ) → b < 2 → b ≡ cond (nat_eq b 1) 1 0
    flagged b lt = grind (arith, nat_tests)
