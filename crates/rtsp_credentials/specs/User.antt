-- A user, as a file of users has them.
use Rattle.std.specs.Prelude.{ℕ, Bool, List, bytes_eq, find, Option}
use Rattle.std.specs.Option.{option_map}

-- a name, and H(A1) in hexadecimal digits
pub record User : Type 0 where
  pub name : List ℕ
  pub secret : List ℕ

abbrev pub user : List ℕ → List ℕ → User
user name secret = record { name = name; secret = secret }

abbrev pub is_named : List ℕ → User → Bool
is_named name user = bytes_eq name user.name

-- H(A1) of the first user of a name
abbrev pub secret_at : List User → List ℕ → Option (List ℕ)
secret_at users name = option_map (λ (user : User). user.secret) (find (is_named name) users)
