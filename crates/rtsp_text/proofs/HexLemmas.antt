-- Hexadecimal numbers of a fixed width.
use Rattle.std.proofs.Common.{◌≡◌, ℕ, zero, suc, ◌+◌, ◌-◌, ◌*◌, ◌/◌, ◌%◌, ◌<◌, ◌≤◌, ◌^◌, List, [], ◌∷◌, ◌++◌, length, get_or, take, refl, sym, ap, subst, ◌∙◌, arith, inl, inr, add-one, eqb, true}
use Rattle.std.proofs.Math.Nat.{pow-suc, pow-le-pow_right, div-div-eq-div-mul}
use Rattle.std.proofs.lemmas.Bool.{agree_below_at, cases_lt, eqb-true, lt-ltb, le-ltb}
use Rattle.std.proofs.lemmas.List.{length-append, get_or_append_left, get_or-append_right, take_all, take_more}
use Rattle.std.specs.Int.{w32, w128, byte_at, bytes_high_first, to_be_bytes}
use Rattle.std.specs.Prelude.{slice_index}
use Rattle.hex.specs.Hex.{encode_lower, encode_with, lower_digits}
use Rattle.rtsp_text.specs.Hexadecimal.{hex_digit, hex_text, IsHexOf}

pub hex_none : (n : ℕ) → hex_text 0 n ≡ []
unfolding hex_text
hex_none n = refl

pub hex_suc : (k n : ℕ) → hex_text (suc k) n ≡ hex_text k (n / 16) ++ hex_digit (n % 16) ∷ []
unfolding hex_text
hex_suc k n = refl

pub length-hex_text : (k n : ℕ) → length (hex_text k n) ≡ k
length-hex_text zero n = ap length (hex_none n)
length-hex_text (suc k) n = ap length (hex_suc k n) ∙ length-append (hex_text k (n / 16)) (hex_digit (n % 16) ∷ []) ∙ (let e = length-hex_text k (n / 16) in omega arith)

-- one more digit after a number
pub hex_push : (k n d : ℕ) → d < 16 → hex_text (k + 1) (n * 16 + d) ≡ hex_text k n ++ hex_digit d ∷ []
hex_push k n d lt =
    let q : (n * 16 + d) / 16 ≡ n = omega arith in
    let r : (n * 16 + d) % 16 ≡ d = omega arith in
    ap (λ (j : ℕ). hex_text j (n * 16 + d)) (add-one k) ∙ hex_suc k (n * 16 + d) ∙ ap (λ (m : ℕ). hex_text k m ++ hex_digit ((n * 16 + d) % 16) ∷ []) q ∙ ap (λ (m : ℕ). hex_text k n ++ hex_digit m ∷ []) r

-- each byte is a digit
pub hex_byte : (k n i : ℕ) → i < k → (d : ℕ) × (d < 16) × (get_or (hex_text k n) i 0 ≡ hex_digit d)
hex_byte zero n i lt = absurd (omega arith)
hex_byte (suc k) n i lt = elim (cases_lt i k) [
  | inl below ↦
      let len = length-hex_text k (n / 16) in
      let r = hex_byte k (n / 16) i below in
      (r.0, r.1, ap (λ (t : List ℕ). get_or t i 0) (hex_suc k n) ∙ get_or_append_left (hex_text k (n / 16)) (hex_digit (n % 16) ∷ []) 0 i (omega arith) ∙ r.2)
  | inr above ↦
      let len = length-hex_text k (n / 16) in
      let z : i - k ≡ 0 = omega arith in
      (n % 16, omega arith, ap (λ (t : List ℕ). get_or t i 0) (hex_suc k n) ∙ get_or-append_right (hex_text k (n / 16)) (hex_digit (n % 16) ∷ []) k i 0 len above ∙ ap (λ (j : ℕ). get_or (hex_digit (n % 16) ∷ []) j 0) z)
]

small_digit : (d : ℕ) → d < 10 → hex_digit d ≡ 48 + d
small_digit d lt = let e = lt-ltb d 10 lt in rw e refl

great_digit : (d : ℕ) → 10 ≤ d → hex_digit d ≡ 87 + d
great_digit d le = let e = le-ltb d 10 le in rw e refl

same_digit : (c d : ℕ) → hex_digit c ≡ hex_digit d → c ≡ d
same_digit c d e = elim (cases_lt c 10) [
  | inl x ↦ elim (cases_lt d 10) [ inl y ↦ omega (arith, e, small_digit c x, small_digit d y) | inr y ↦ omega (arith, e, small_digit c x, great_digit d y) ]
  | inr x ↦ elim (cases_lt d 10) [ inl y ↦ omega (arith, e, great_digit c x, small_digit d y) | inr y ↦ omega (arith, e, great_digit c x, great_digit d y) ]
]

same_ends : (xs ys : List ℕ) (x y : ℕ) → xs ++ x ∷ [] ≡ ys ++ y ∷ [] → (xs ≡ ys) × (x ≡ y)
same_ends [] [] x y e = (refl, cc)
same_ends [] (b ∷ ys) x y e = let n = ap length e in absurd (omega (arith, n, length-append ys (y ∷ [])))
same_ends (a ∷ xs) [] x y e = let n = ap length e in absurd (omega (arith, n, length-append xs (x ∷ [])))
same_ends (a ∷ xs) (b ∷ ys) x y e =
    let h : a ≡ b = cc in
    let r = same_ends xs ys x y cc in
    (ap (λ (z : ℕ). z ∷ xs) h ∙ ap (λ (zs : List ℕ). b ∷ zs) r.0, r.1)

below_quotient : (k n : ℕ) → n < 16 ^ suc k → n / 16 < 16 ^ k
below_quotient k n lt = omega (arith, pow-suc 16 k)

-- so many digits write one number
pub same_hex : (k a b : ℕ) → a < 16 ^ k → b < 16 ^ k → hex_text k a ≡ hex_text k b → a ≡ b
same_hex zero a b x y e = omega arith
same_hex (suc k) a b x y e =
    let s = same_ends (hex_text k (a / 16)) (hex_text k (b / 16)) (hex_digit (a % 16)) (hex_digit (b % 16)) (sym (hex_suc k a) ∙ e ∙ hex_suc k b) in
    let q = same_hex k (a / 16) (b / 16) (below_quotient k a x) (below_quotient k b y) s.0 in
    let r = same_digit (a % 16) (b % 16) s.1 in
    omega arith

-- ---- reading digits from left to right

pub room_for_digit : (k i n d : ℕ) → i < k → n < 16 ^ i → d < 16 → n * 16 + d < 16 ^ k
room_for_digit k i n d lt small digit =
    let p = pow-suc 16 i in
    let m : 16 ^ suc i ≤ 16 ^ k = pow-le-pow_right {n = 16} (omega arith) {i = suc i} {j = k} (omega arith) in
    omega arith

pub step_digit : (text : List ℕ) (i n d : ℕ) → i < length text → d < 16 → hex_digit d ≡ get_or text i 0 → hex_text i n ≡ take i text → hex_text (i + 1) (n * 16 + d) ≡ take (i + 1) text
step_digit text i n d lt small e so_far =
    hex_push i n d small ∙ ap (λ (t : List ℕ). t ++ hex_digit d ∷ []) so_far ∙ ap (λ (b : ℕ). take i text ++ b ∷ []) e ∙ sym (take_more text i 0 lt)

pub no_digit : (text : List ℕ) (i n : ℕ) → i < length text → ((d : ℕ) → d < 16 → ¬ hex_digit d ≡ get_or text i 0) → ¬ IsHexOf text n
no_digit text i n lt none s = let r = hex_byte (length text) n i lt in none r.0 r.1 (sym r.2 ∙ ap (λ (t : List ℕ). get_or t i 0) (sym s.digits))

pub is_hex_of : (text : List ℕ) (i n : ℕ) → i ≡ length text → hex_text i n ≡ take i text → n < 16 ^ i → IsHexOf text n
is_hex_of text i n e so_far small = record {
  fits = subst (λ (j : ℕ). n < 16 ^ j) e small;
  digits = sym (ap (λ (j : ℕ). hex_text j n) (sym e) ∙ so_far ∙ take_all i text (omega arith));
}

-- a text is the digits of one number
pub one_hex : (text : List ℕ) (n m : ℕ) → IsHexOf text n → IsHexOf text m → n ≡ m
one_hex text n m a b = same_hex (length text) n m a.fits b.fits (sym a.digits ∙ b.digits)

pub one_number : (text : List ℕ) (i n m : ℕ) → i ≡ length text → hex_text i n ≡ take i text → n < 16 ^ i → IsHexOf text m → n ≡ m
one_number text i n m e so_far small s = one_hex text n m (is_hex_of text i n e so_far small) s

-- ---- the digits of bytes

-- the first digit of a number
hex_front : (k n : ℕ) → hex_text (suc k) n ≡ hex_digit (n / 16 ^ k % 16) ∷ hex_text k n
hex_front zero n =
    let whole : n % 16 ≡ n / 16 ^ 0 % 16 = omega arith in
    hex_suc 0 n ∙ rw (hex_none (n / 16)) (ap (λ (d : ℕ). hex_digit d ∷ []) whole) ∙ ap (λ (t : List ℕ). hex_digit (n / 16 ^ 0 % 16) ∷ t) (sym (hex_none n))
hex_front (suc k) n =
    let same : n / 16 / 16 ^ k ≡ n / 16 ^ suc k = div-div-eq-div-mul n 16 (16 ^ k) ∙ ap (λ (p : ℕ). n / p) (omega (arith, pow-suc 16 k)) in
    hex_suc (suc k) n ∙ ap (λ (t : List ℕ). t ++ hex_digit (n % 16) ∷ []) (hex_front k (n / 16))
    ∙ ap (λ (d : ℕ). hex_digit (d % 16) ∷ (hex_text k (n / 16) ++ hex_digit (n % 16) ∷ [])) same
    ∙ ap (λ (t : List ℕ). hex_digit (n / 16 ^ suc k % 16) ∷ t) (sym (hex_suc k n))

-- the table of the digits
table_digit : (d : ℕ) → d < 16 → slice_index lower_digits d ≡ hex_digit d
table_digit d lt = eqb-true (slice_index lower_digits d) (hex_digit d) (agree_below_at (λ b. eqb (slice_index lower_digits b) (hex_digit b)) (λ _. true) 16 d refl lt)

byte_is : (k n : ℕ) → byte_at k n ≡ n / 256 ^ k % 256
byte_is zero n = omega arith
byte_is (suc k) n = refl

powers : (k : ℕ) → 256 ^ k ≡ 16 ^ (2 * k)
powers zero = refl
powers (suc k) =
    let two : 2 * suc k ≡ suc (suc (2 * k)) = omega arith in
    let p = powers k in
    ap (λ (j : ℕ). j) (omega (arith, p, pow-suc 256 k, pow-suc 16 (2 * k), pow-suc 16 (suc (2 * k)), ap (λ (j : ℕ). 16 ^ j) two))

-- bytes from the most significant on have twice as many digits
pub bytes_hex : (k n : ℕ) → encode_lower (bytes_high_first k n) ≡ hex_text (2 * k) n
unfolding encode_with
bytes_hex zero n = sym (hex_none n)
bytes_hex (suc k) n =
    let b = byte_is k n in
    let p = powers k in
    let q = pow-suc 16 (2 * k) in
    let low : byte_at k n % 16 ≡ n / 16 ^ (2 * k) % 16 = rw (b, p) (omega arith) in
    let next : n / 16 ^ (2 * k) / 16 ≡ n / 16 ^ suc (2 * k) = div-div-eq-div-mul n (16 ^ (2 * k)) 16 ∙ ap (λ (m : ℕ). n / m) (sym q) in
    let high : byte_at k n / 16 ≡ n / 16 ^ suc (2 * k) % 16 = rw (b, p, ← next) (omega arith) in
    let two : 2 * suc k ≡ suc (suc (2 * k)) = omega arith in
    let first : slice_index lower_digits (byte_at k n / 16) ≡ hex_digit (n / 16 ^ suc (2 * k) % 16) = ap (slice_index lower_digits) high ∙ table_digit (n / 16 ^ suc (2 * k) % 16) (omega arith) in
    let second : slice_index lower_digits (byte_at k n % 16) ≡ hex_digit (n / 16 ^ (2 * k) % 16) = ap (slice_index lower_digits) low ∙ table_digit (n / 16 ^ (2 * k) % 16) (omega arith) in
    ap (λ (d : ℕ). d ∷ slice_index lower_digits (byte_at k n % 16) ∷ encode_lower (bytes_high_first k n)) first
    ∙ ap (λ (d : ℕ). hex_digit (n / 16 ^ suc (2 * k) % 16) ∷ d ∷ encode_lower (bytes_high_first k n)) second
    ∙ ap (λ (t : List ℕ). hex_digit (n / 16 ^ suc (2 * k) % 16) ∷ hex_digit (n / 16 ^ (2 * k) % 16) ∷ t) (bytes_hex k n)
    ∙ ap (λ (t : List ℕ). hex_digit (n / 16 ^ suc (2 * k) % 16) ∷ t) (sym (hex_front (2 * k) n))
    ∙ sym (hex_front (suc (2 * k)) n) ∙ ap (λ (j : ℕ). hex_text j n) (sym two)

pub u32_hex : (n : ℕ) → encode_lower (to_be_bytes w32 n) ≡ hex_text 8 n
u32_hex n = bytes_hex 4 n

pub u128_hex : (n : ℕ) → encode_lower (to_be_bytes w128 n) ≡ hex_text 32 n
u128_hex n = bytes_hex 16 n
