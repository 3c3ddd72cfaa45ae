-- Decimal numbers.
use Rattle.std.specs.Prelude.{◌≡◌, ◌≤◌, ◌+◌, ◌/◌, ◌%◌, ℕ, ◌==◌, ◌||◌, nat_lt, List, [], ◌∷◌, length, Option, Some, None, if◌then◌else◌}
use Rattle.std.specs.Char.{is_ascii_digit}
use Rattle.std.specs.List.{list_all}
use Rattle.std.specs.Str.Parse.{IsNumeral, digits_value}

-- The text is one to so many decimal digits that write the number. It may begin with zeros.
pub record SpellsNumber (most : ℕ) (text : List ℕ) (n : ℕ) : Type 0 where
  pub digits : IsNumeral 10 text
  pub few : length text ≤ most
  pub value : n ≡ digits_value 10 text

-- the number that digits write, where there is nothing else; 0 where there is nothing
unfoldable pub digits_number : List ℕ → Option ℕ
digits_number text = if list_all is_ascii_digit text then Some (digits_value 10 text) else None

-- the one number of a text of one to so many digits
unfoldable pub number_of : ℕ → List ℕ → Option ℕ
number_of most text = if (length text == 0) || nat_lt most (length text) then None else digits_number text

-- the last digit of a number
abbrev pub digit : ℕ → ℕ
digit n = 48 + n % 10

-- the last three digits of a number
abbrev pub three_digits : ℕ → List ℕ
three_digits n = digit (n / 100) ∷ digit (n / 10) ∷ digit n ∷ []
