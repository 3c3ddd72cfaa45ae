-- Tests of each byte of a line, a token and a method.
use Rattle.std.proofs.Common.{◌≡◌, ℕ, ◌-◌, ◌<◌, List, ◌++◌, length, get_or, refl, arith, Bool, true, false, eqb}
use Rattle.std.specs.Prelude.{not, nat_eq, [], ◌∷◌}
use Rattle.std.specs.List.{list_all, starts_with}
use Rattle.std.proofs.lemmas.Bool.{and_parts, not-true}
use Rattle.rtsp_text.specs.Bytes.{is_blank, is_token, is_token_byte}
use Rattle.rtsp_text.proofs.ByteLemmas.{all_get, all_joined, all_weaker, other}
use Rattle.rtsp_text.specs.Bytes.{is_line_byte}
use Rattle.rtsp_grammar.specs.Words.{is_method}

pub method_token : (bytes : List ℕ) → is_method bytes ≡ true → is_token bytes ≡ true
method_token bytes e = (and_parts (is_token bytes) (not (starts_with nat_eq bytes (36 ∷ []))) e).0

-- ---- bytes of a line

abbrev pub AreLineBytes : List ℕ → Type 0
AreLineBytes bytes = list_all is_line_byte bytes ≡ true

pub joined : (xs ys : List ℕ) → AreLineBytes xs → AreLineBytes ys → AreLineBytes (xs ++ ys)
joined xs ys p q = all_joined is_line_byte xs ys p q

-- a byte of a class without CR and LF
line_byte : (p : ℕ → Bool) (b : ℕ) → p 13 ≡ false → p 10 ≡ false → p b ≡ true → is_line_byte b ≡ true
line_byte p b r l e = let x = not-true (eqb b 13) (other p 13 b r e) in let y = not-true (eqb b 10) (other p 10 b l e) in rw (x, y) refl

pub class_line : (p : ℕ → Bool) (xs : List ℕ) → p 13 ≡ false → p 10 ≡ false → list_all p xs ≡ true → AreLineBytes xs
class_line p xs r l e = all_weaker p is_line_byte xs (λ b h. line_byte p b r l h) e

-- ---- bytes of a token

-- a byte of a token is no blank
pub no_blank : (b : ℕ) → is_token_byte b ≡ true → is_blank b ≡ false
no_blank b e = let x = not-true (eqb b 32) (other is_token_byte 32 b refl e) in let y = not-true (eqb b 9) (other is_token_byte 9 b refl e) in rw (x, y) refl

-- a token has no blank
pub token_end : (xs : List ℕ) → list_all is_token_byte xs ≡ true → 0 < length xs → is_blank (get_or xs (length xs - 1) 0) ≡ false
token_end xs e lt = no_blank (get_or xs (length xs - 1) 0) (all_get is_token_byte xs (length xs - 1) e (omega arith))
