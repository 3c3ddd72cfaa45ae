-- Addresses and ports in text, and that what is written of a number is read as it.
use Rattle.std.proofs.Common.{◌≡◌, ◌≢◌, ◌∙◌, sym, refl, ap, subst, ℕ, ◌+◌, ◌*◌, ◌^◌, ◌<◌, ◌≤◌, zero, suc, Bool, true, false, eqb, ltb, List, [], ◌∷◌, ◌++◌, length, get_or, Option, Some, None, arith, length-append, codes}
use Rattle.std.specs.Prelude.{◌==◌, ◌||◌, ◌&&◌, ◌/◌, ◌%◌, decimal, nat_lt}
use Rattle.std.specs.Char.{is_ascii_digit}
use Rattle.std.specs.List.{list_all}
use Rattle.std.specs.Str.Parse.{digits_value}
use Rattle.std.proofs.lemmas.Bool.{and_right, ne_eqb, le-ltb}
use Rattle.std.proofs.lemmas.Fmt.{decimal_is_IsNumeral, decimal_digit, length-decimal-le, first_decimal}
use Rattle.rtsp_text.specs.Bytes.{is_other}
use Rattle.rtsp_text.specs.Decimal.{SpellsNumber, number_of}
use Rattle.rtsp_text.specs.Options.{Finds}
use Rattle.rtsp_text.proofs.ByteLemmas.{all_other, all_joined, all_weaker}
use Rattle.rtsp_text.proofs.DecimalLemmas.{digit_bytes, numbers}
use Rattle.rtsp_text.proofs.SplitLemmas.{split_found}
use Rattle.rtsp_proxy.specs.Line.{is_padded, octet_of, port_of, address_of}
use Rattle.rtsp_proxy.specs.Laws.{dotted, spaced}

-- a digit or a dot
abbrev pub is_dotted : ℕ → Bool
is_dotted b = is_ascii_digit b || (b == 46)

-- the text is an address's, or a port's
pub record IsAddress (text : List ℕ) (address : ℕ) : Type 0 where
  pub bytes : list_all is_dotted text ≡ true
  pub read : address_of text ≡ Some address

pub record IsPort (text : List ℕ) (port : ℕ) : Type 0 where
  pub bytes : list_all is_ascii_digit text ≡ true
  pub read : port_of text ≡ Some port

-- what a header of version 1 says of TCP over IPv4
abbrev pub fields : List ℕ → List ℕ → List ℕ → List ℕ → List ℕ
fields source target port target_port = spaced (codes "TCP4") (spaced source (spaced target (spaced port target_port)))

-- ---- a number

unpadded : (text : List ℕ) → 48 < get_or text 0 0 → is_padded text ≡ false
unpadded [] first = refl
unpadded (b ∷ text) first = and_right (nat_lt 0 (length text)) (b == 48) (ne_eqb b 48 (λ e. absurd (omega (arith, e, first))))

decimal-unpadded : (n : ℕ) → n < 2 ^ 64 → is_padded (decimal n) ≡ false
decimal-unpadded zero small = let one : decimal 0 ≡ 48 ∷ [] = decimal_digit 0 (omega arith) in ap is_padded one
decimal-unpadded (suc n) small = unpadded (decimal (suc n)) (first_decimal (suc n) (omega arith) small)

decimal-digits : (n : ℕ) → n < 2 ^ 64 → list_all is_ascii_digit (decimal n) ≡ true
decimal-digits n small = digit_bytes (decimal n) (decimal_is_IsNumeral n small).0.1

-- a number of so few digits is read from them
decimal-read : (most n : ℕ) → 0 < most → n < 10 ^ most → n < 2 ^ 64 → number_of most (decimal n) ≡ Some n
decimal-read most n some fits small =
    let numeral = decimal_is_IsNumeral n small in
    let all = numbers most in
    all.complete (decimal n) n (record { digits = numeral.0; few = length-decimal-le most n some fits small; value = sym numeral.1 })

octet-read : (n : ℕ) → n < 256 → octet_of (decimal n) ≡ Some n
unfolding octet_of
octet-read n small =
    rw (decimal-read 3 n (omega arith) (omega (arith, small)) (omega (arith, small)), le-ltb 255 n (omega (arith, small)), decimal-unpadded n (omega (arith, small))) refl

port-of-read : (n : ℕ) → n < 2 ^ 16 → port_of (decimal n) ≡ Some n
unfolding port_of
port-of-read n small =
    rw (decimal-read 5 n (omega arith) (omega (arith, small)) (omega (arith, small)), le-ltb 65535 n (omega (arith, small)), decimal-unpadded n (omega (arith, small))) refl

pub port-read : (n : ℕ) → n < 2 ^ 16 → IsPort (decimal n) n
port-read n small = record { bytes = decimal-digits n (omega (arith, small)); read = port-of-read n small }

-- ---- an address

digit-dotted : (b : ℕ) → is_ascii_digit b ≡ true → is_dotted b ≡ true
digit-dotted b e = rw e refl

dotted-byte : (n : ℕ) → n < 256 → list_all is_dotted (decimal n) ≡ true
dotted-byte n small = all_weaker is_ascii_digit is_dotted (decimal n) digit-dotted (decimal-digits n (omega (arith, small)))

undotted : (n : ℕ) → n < 256 → list_all (is_other 46) (decimal n) ≡ true
undotted n small = all_other is_ascii_digit 46 (decimal n) refl (decimal-digits n (omega (arith, small)))

-- four numbers with dots between them
abbrev four_of : ℕ → ℕ → ℕ → ℕ → List ℕ
four_of a b c d = decimal a ++ 46 ∷ (decimal b ++ 46 ∷ (decimal c ++ 46 ∷ decimal d))

four-bytes : (a b c d : ℕ) → a < 256 → b < 256 → c < 256 → d < 256 → list_all is_dotted (four_of a b c d) ≡ true
four-bytes a b c d p q r s =
    let third = all_joined is_dotted (decimal c) (46 ∷ decimal d) (dotted-byte c r) (dotted-byte d s) in
    let second = all_joined is_dotted (decimal b) (46 ∷ (decimal c ++ 46 ∷ decimal d)) (dotted-byte b q) third in
    all_joined is_dotted (decimal a) (46 ∷ (decimal b ++ 46 ∷ (decimal c ++ 46 ∷ decimal d))) (dotted-byte a p) second

four-read : (a b c d : ℕ) → a < 256 → b < 256 → c < 256 → d < 256 → address_of (four_of a b c d) ≡ Some (a * 0x1000000 + b * 0x10000 + c * 0x100 + d)
unfolding address_of
four-read a b c d p q r s =
    rw (
      split_found 46 (decimal a) (decimal b ++ 46 ∷ (decimal c ++ 46 ∷ decimal d)) (undotted a p),
      octet-read a p,
      split_found 46 (decimal b) (decimal c ++ 46 ∷ decimal d) (undotted b q),
      octet-read b q,
      split_found 46 (decimal c) (decimal d) (undotted c r),
      octet-read c r,
      octet-read d s,
    ) refl

pub address-read : (n : ℕ) → n < 2 ^ 32 → IsAddress (dotted n) n
address-read n small =
    let a : n / 0x1000000 < 256 = omega (arith, small) in
    let b : n / 0x10000 % 256 < 256 = omega arith in
    let c : n / 0x100 % 256 < 256 = omega arith in
    let d : n % 256 < 256 = omega arith in
    let sum : n / 0x1000000 * 0x1000000 + n / 0x10000 % 256 * 0x10000 + n / 0x100 % 256 * 0x100 + n % 256 ≡ n = omega arith in
    record {
      bytes = four-bytes (n / 0x1000000) (n / 0x10000 % 256) (n / 0x100 % 256) (n % 256) a b c d;
      read = four-read (n / 0x1000000) (n / 0x10000 % 256) (n / 0x100 % 256) (n % 256) a b c d ∙ ap Some sum;
    }

-- ---- how long they are

four-short : (a b c d : ℕ) → a < 256 → b < 256 → c < 256 → d < 256 → length (four_of a b c d) ≤ 15
four-short a b c d p q r s =
    let third = length-append (decimal c) (46 ∷ decimal d) in
    let second = length-append (decimal b) (46 ∷ (decimal c ++ 46 ∷ decimal d)) in
    let first = length-append (decimal a) (46 ∷ (decimal b ++ 46 ∷ (decimal c ++ 46 ∷ decimal d))) in
    omega (arith, first, second, third, few a p, few b q, few c r, few d s)
  where
    few : (n : ℕ) → n < 256 → length (decimal n) ≤ 3
    few n small = length-decimal-le 3 n (omega arith) (omega (arith, small)) (omega (arith, small))

pub address-short : (n : ℕ) → n < 2 ^ 32 → length (dotted n) ≤ 15
address-short n small = four-short (n / 0x1000000) (n / 0x10000 % 256) (n / 0x100 % 256) (n % 256) (omega (arith, small)) (omega arith) (omega arith) (omega arith)

pub port-short : (n : ℕ) → n < 2 ^ 16 → length (decimal n) ≤ 5
port-short n small = length-decimal-le 5 n (omega arith) (omega (arith, small)) (omega (arith, small))
