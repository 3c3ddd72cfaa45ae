-- Numbers of 32 hexadecimal digits, read two digits at a time.
use Rattle.std.proofs.Common.{◌≡◌, ℕ, zero, suc, ◌+◌, ◌*◌, ◌%◌, ◌<◌, ◌≤◌, ◌^◌, Bool, true, false, ltb, List, length, get_or, take, refl, sym, subst, ◌∙◌, arith, inl, inr}
use Rattle.std.proofs.Math.ListN.{set}
use Rattle.std.specs.Prelude.{◌&&◌}
use Rattle.std.specs.Int.{w128, from_be_bytes}
use Rattle.std.proofs.lemmas.Bool.{cases_lt, cases_eq, ltb-true, lt-ltb, and_parts, and_from, both_ways, false_from_ne_true}
use Rattle.std.proofs.lemmas.List.{length-set, get_or-set_same, get_or-set_other}
use Rattle.rtsp_text.specs.Hexadecimal.{hex_digit, hex_text, IsHexOf}
use Rattle.rtsp_text.proofs.HexLemmas.{hex_none, step_digit, room_for_digit, no_digit, is_hex_of, one_hex}

-- The byte has the values of the two digits at its place.
pub record PairAt (text bytes : List ℕ) (k : ℕ) : Type 0 where
  pub high : ℕ
  pub low : ℕ
  pub high_fits : high < 16
  pub low_fits : low < 16
  pub first : hex_digit high ≡ get_or text (2 * k) 0
  pub second : hex_digit low ≡ get_or text (2 * k + 1) 0
  pub both : get_or bytes k 0 ≡ high * 16 + low

-- What a loop has read that goes on behind a byte that is no digit.
pub record PairsRead (text bytes : List ℕ) (i : ℕ) (are_digits : Bool) : Type 0 where
  pub sized : length bytes ≡ 16
  pub pairs : are_digits ≡ true → (k : ℕ) → k < i → PairAt text bytes k
  pub other : are_digits ≡ false → (n : ℕ) → ¬ IsHexOf text n

-- the number of the first bytes
abbrev worth : List ℕ → ℕ → ℕ
worth bytes zero = 0
worth bytes (suc k) = worth bytes k * 256 + get_or bytes k 0

worth_is : (bytes : List ℕ) → worth bytes 16 ≡ from_be_bytes w128 bytes
worth_is bytes = omega arith

pairs_spell : (text bytes : List ℕ) (k : ℕ) → 2 * k ≤ length text → ((j : ℕ) → j < k → PairAt text bytes j) → (hex_text (2 * k) (worth bytes k) ≡ take (2 * k) text) × (worth bytes k < 16 ^ (2 * k))
pairs_spell text bytes zero le pairs = (hex_none 0, omega arith)
pairs_spell text bytes (suc k) le pairs =
    let before = pairs_spell text bytes k (omega arith) (λ j lt. pairs j (omega arith)) in
    let pair = pairs k (omega arith) in
    let n = worth bytes k in
    let one = step_digit text (2 * k) n pair.high (omega arith) pair.high_fits pair.first before.0 in
    let two = step_digit text (2 * k + 1) (n * 16 + pair.high) pair.low (omega arith) pair.low_fits pair.second one in
    let one_fits = room_for_digit (2 * k + 1) (2 * k) n pair.high (omega arith) before.1 pair.high_fits in
    let two_fits = room_for_digit (2 * suc k) (2 * k + 1) (n * 16 + pair.high) pair.low (omega arith) one_fits pair.low_fits in
    let same : (n * 16 + pair.high) * 16 + pair.low ≡ worth bytes (suc k) = omega (arith, pair.both) in
    let places : 2 * k + 1 + 1 ≡ 2 * suc k = omega arith in (
      subst (λ (j : ℕ). hex_text j (worth bytes (suc k)) ≡ take j text) places (subst (λ (m : ℕ). hex_text (2 * k + 1 + 1) m ≡ take (2 * k + 1 + 1) text) same two),
      subst (λ (m : ℕ). m < 16 ^ (2 * suc k)) same two_fits,
    )

-- ---- the loop

-- What the test of a byte says.
abbrev pub Reads : ℕ → ℕ → Type 0
Reads value byte = (value < 16 → hex_digit value ≡ byte) × (16 ≤ value → (d : ℕ) → d < 16 → ¬ hex_digit d ≡ byte)

pub pairs_none : (text bytes : List ℕ) → length bytes ≡ 16 → PairsRead text bytes 0 true
pairs_none text bytes e = record { sized = e; pairs = λ e k lt. absurd (omega arith); other = λ e. absurd cc }

other_more : (text : List ℕ) (i high low : ℕ) (are_digits : Bool) → 2 * i + 1 < length text → Reads high (get_or text (2 * i) 0) → Reads low (get_or text (2 * i + 1) 0) → (are_digits ≡ false → (n : ℕ) → ¬ IsHexOf text n) → ((are_digits && ltb high 16) && ltb low 16) ≡ false → (n : ℕ) → ¬ IsHexOf text n
other_more text i high low are_digits lt first second before e n = elim (cases_lt high 16) [
  | inl h ↦ elim (cases_lt low 16) [
    | inl l ↦
        let was : are_digits ≡ false = false_from_ne_true are_digits (λ t. both_ways ((are_digits && ltb high 16) && ltb low 16) e (and_from (are_digits && ltb high 16) (ltb low 16) (and_from are_digits (ltb high 16) t (lt-ltb high 16 h)) (lt-ltb low 16 l))) in
        before was n
    | inr l ↦ no_digit text (2 * i + 1) n lt (second.1 l)
  ]
  | inr h ↦ no_digit text (2 * i) n (omega arith) (first.1 h)
]

pair_more : (text bytes : List ℕ) (i high low k : ℕ) → length bytes ≡ 16 → i < 16 → high < 16 → low < 16 → hex_digit high ≡ get_or text (2 * i) 0 → hex_digit low ≡ get_or text (2 * i + 1) 0 → ((j : ℕ) → j < i → PairAt text bytes j) → k < i + 1 → PairAt text (set bytes i (high % 16 * 16 + low % 16)) k
pair_more text bytes i high low k sized lt h l first second before le = elim (cases_eq k i) [
  | inl same ↦
      let whole : high % 16 * 16 + low % 16 ≡ high * 16 + low = omega arith in
      subst (λ (j : ℕ). PairAt text (set bytes i (high % 16 * 16 + low % 16)) j) (sym same) (record {
        high = high;
        low = low;
        high_fits = h;
        low_fits = l;
        first = first;
        second = second;
        both = get_or-set_same bytes i (high % 16 * 16 + low % 16) 0 (omega arith) ∙ whole;
      })
  | inr differs ↦
      let pair = before k (omega (arith, differs)) in
      record {
        high = pair.high;
        low = pair.low;
        high_fits = pair.high_fits;
        low_fits = pair.low_fits;
        first = pair.first;
        second = pair.second;
        both = get_or-set_other bytes i k (high % 16 * 16 + low % 16) 0 differs ∙ pair.both;
      }
]

pub pairs_more : (text bytes : List ℕ) (i high low : ℕ) (are_digits : Bool) → length text ≡ 32 → i < 16 → Reads high (get_or text (2 * i) 0) → Reads low (get_or text (2 * i + 1) 0) → PairsRead text bytes i are_digits → PairsRead text (set bytes i (high % 16 * 16 + low % 16)) (i + 1) ((are_digits && ltb high 16) && ltb low 16)
pairs_more text bytes i high low are_digits e lt first second read = record {
  sized = length-set bytes i (high % 16 * 16 + low % 16) ∙ read.sized;
  pairs = λ are k le.
      let outer = and_parts (are_digits && ltb high 16) (ltb low 16) are in
      let inner = and_parts are_digits (ltb high 16) outer.0 in
      let h = ltb-true high 16 inner.1 in
      let l = ltb-true low 16 outer.1 in
      pair_more text bytes i high low k read.sized lt h l (first.0 h) (second.0 l) (read.pairs inner.0) le;
  other = other_more text i high low are_digits (omega arith) first second read.other;
}

-- ---- the number

pub pairs_number : (text bytes : List ℕ) (i : ℕ) → length text ≡ 32 → i ≡ 16 → PairsRead text bytes i true → IsHexOf text (from_be_bytes w128 bytes)
pairs_number text bytes i e all read =
    let r = pairs_spell text bytes 16 (omega arith) (λ j lt. read.pairs refl j (omega arith)) in
    subst (λ (n : ℕ). IsHexOf text n) (worth_is bytes) (is_hex_of text 32 (worth bytes 16) (sym e) r.0 r.1)

pub pairs_one : (text bytes : List ℕ) (i n : ℕ) → length text ≡ 32 → i ≡ 16 → PairsRead text bytes i true → IsHexOf text n → from_be_bytes w128 bytes ≡ n
pairs_one text bytes i n e all read s = one_hex text (from_be_bytes w128 bytes) n (pairs_number text bytes i e all read) s
