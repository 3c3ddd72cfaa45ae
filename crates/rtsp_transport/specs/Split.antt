-- Parts of a text round a separator that may be in quotes too.
use Rattle.std.specs.Prelude.{◌≡◌, ◌≢◌, ℕ, Bool, true, false, not, ◌==◌, ◌&&◌, ◌||◌, List, [], ◌∷◌, ◌++◌, Option, Some, None, if◌then◌else◌}
use Rattle.std.specs.List.{join_with_byte, AllByRecursion}

-- The quotes of a part are in pairs, and the separator is only between the two of a pair.
abbrev pub is_part : Bool → ℕ → List ℕ → Bool
is_part inside separator [] = not inside
is_part inside separator (b ∷ bytes) =
    if b == 34 then is_part (not inside) separator bytes else ((inside || not (b == separator)) && is_part inside separator bytes)

abbrev pub IsPart : ℕ → List ℕ → Type 0
IsPart separator part = is_part false separator part ≡ true

-- The text is these parts with a separator between each two.
pub record IsSplit (separator : ℕ) (text : List ℕ) (parts : List (List ℕ)) : Type 0 where
  pub joined : text ≡ join_with_byte separator parts
  pub each : AllByRecursion (IsPart separator) parts
  pub some : parts ≢ []

-- the quotes of a text are in pairs
abbrev pub is_closed : Bool → List ℕ → Bool
is_closed inside [] = not inside
is_closed inside (b ∷ bytes) = is_closed (if b == 34 then not inside else inside) bytes

-- a text before the first part
abbrev pub onto_first : List ℕ → List (List ℕ) → List (List ℕ)
onto_first front [] = front ∷ []
onto_first front (part ∷ parts) = (front ++ part) ∷ parts

-- the one list of parts of a text whose quotes are in pairs
unfoldable pub split : Bool → ℕ → List ℕ → List (List ℕ)
split inside separator [] = [] ∷ []
split inside separator (b ∷ bytes) =
    if b == 34 then onto_first (b ∷ []) (split (not inside) separator bytes)
    else (if (b == separator) && not inside then [] ∷ split false separator bytes else onto_first (b ∷ []) (split inside separator bytes))

-- the parts of the text after a separator, where there is one
abbrev pub parts_left : ℕ → Option (List ℕ) → List (List ℕ)
parts_left separator None = []
parts_left separator (Some text) = split false separator text
