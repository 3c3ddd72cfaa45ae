-- Headers of a message (RFC 7826 section 5.2).
use Rattle.std.specs.Prelude.{ℕ, Bool, nat_eq, List, [], ◌∷◌, map, if◌then◌else◌}
use Rattle.std.specs.Char.{to_ascii_lowercase}
use Rattle.std.specs.Cmp.Lexicographic.{pointwise}

-- a header's name and its value
pub record HeaderText : Type 0 where
  pub name : List ℕ
  pub value : List ℕ

-- one name, without regard to ASCII case
abbrev pub is_named : List ℕ → List ℕ → Bool
is_named name other = pointwise nat_eq (map to_ascii_lowercase name) (map to_ascii_lowercase other)

-- the values of the headers of a name, in order
unfoldable pub values_of : List ℕ → List HeaderText → List (List ℕ)
values_of name [] = []
values_of name (h ∷ hs) = if is_named h.name name then h.value ∷ values_of name hs else values_of name hs
