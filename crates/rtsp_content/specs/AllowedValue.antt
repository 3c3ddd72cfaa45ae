-- For whom presentations are there, as contracts see it.
use Rattle.std.specs.Prelude.{ℕ, Bool, true, false, not, ◌||◌, List, Option, Some, None, bytes_eq}
use Rattle.std.specs.List.{list_any, list_all}

-- a presentation, and the users for whom alone it is there, where it names some
pub record AllowedValue : Type 0 where
  pub name : List ℕ
  pub users : Option (List (List ℕ))

-- who is named; everybody where nobody is said to be
abbrev pub has_user : List ℕ → Option (List (List ℕ)) → Bool
has_user user (Some users) = list_any (λ u. bytes_eq u user) users
has_user user None = true

abbrev pub names_some : Option (List (List ℕ)) → Bool
names_some (Some users) = true
names_some None = false

abbrev pub names_users : AllowedValue → Bool
names_users row = names_some row.users

abbrev pub row_lets : List ℕ → List ℕ → AllowedValue → Bool
row_lets name user row = not (bytes_eq row.name name) || has_user user row.users

-- each presentation of the name is there for the user
abbrev pub lets : List ℕ → List ℕ → List AllowedValue → Bool
lets name user rows = list_all (row_lets name user) rows
