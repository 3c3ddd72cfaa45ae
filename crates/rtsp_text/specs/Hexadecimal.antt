-- Hexadecimal numbers of a fixed width, in lower case.
use Rattle.std.specs.Prelude.{◌≡◌, ◌<◌, ◌^◌, ◌+◌, ◌/◌, ◌%◌, ℕ, zero, suc, nat_lt, List, [], ◌∷◌, ◌++◌, length, if◌then◌else◌}

-- 0 to 9 and a to f
abbrev pub hex_digit : ℕ → ℕ
hex_digit d = if nat_lt d 10 then 48 + d else 87 + d

-- so many digits of a number, the last ones, the most significant first
unfoldable pub hex_text : ℕ → ℕ → List ℕ
hex_text zero n = []
hex_text (suc digits) n = hex_text digits (n / 16) ++ hex_digit (n % 16) ∷ []

-- The text is the number, in as many digits as the text is long.
pub record IsHexOf (text : List ℕ) (n : ℕ) : Type 0 where
  pub fits : n < 16 ^ length text
  pub digits : text ≡ hex_text (length text) n
