-- A line of keys, and how it changes.
use Rattle.std.specs.Prelude.{◌≡◌, ⊤, ℕ, ◌<◌, ◌==◌, Bool, List, [], ◌∷◌, ◌++◌, length, count_by, if◌then◌else◌, Option, Some, None, slice_get, slice_index_or, false}
use Rattle.std.specs.List.{remove}

-- the keys in a line, the first in front; those that are less than `room` have room
pub record Keys : Type 0 where
  pub keys : List ℕ
  pub room : ℕ

-- how many times a key is in a line
abbrev pub times : ℕ → List ℕ → ℕ
times key keys = count_by (λ k. k == key) keys

abbrev pub IsIn : ℕ → List ℕ → Type 0
IsIn key keys = times key keys ≡ 1

abbrev pub IsOut : ℕ → List ℕ → Type 0
IsOut key keys = times key keys ≡ 0

-- a key is in the line once where its mark says so, and else not; there are as many keys as marks
pub record IsLine (keys : List ℕ) (marks : List Bool) : Type 0 where
  pub once : (key : ℕ) → times key keys ≡ (if slice_index_or marks key false then 1 else 0)
  pub all : length keys ≡ count_by (λ b. b) marks

-- a key is put behind the others, if it has room and isn't there; else nothing changes
pub record Puts (old : Keys) (key : ℕ) (new : Keys) : Type 0 where
  pub room : new.room ≡ old.room
  pub put : key < old.room → IsOut key old.keys → new.keys ≡ old.keys ++ key ∷ []
  pub was_in : IsIn key old.keys → new.keys ≡ old.keys
  pub no_room : (key < old.room → ⊥) → new.keys ≡ old.keys

-- the first key is taken out of the others; none where there is none
abbrev pub TakesFirst : Keys → Option ℕ → Keys → Type 0
TakesFirst old (Some key) new = (old.keys ≡ key ∷ new.keys) × (new.room ≡ old.room)
TakesFirst old None new = (old.keys ≡ []) × (new ≡ old)

-- the keys without the one at an index, which is this one
pub record IsWithout (old : List ℕ) (key : ℕ) (new : List ℕ) : Type 0 where
  pub at : ℕ
  pub there : slice_get old at ≡ Some key
  pub rest : new ≡ remove old at

-- a key is taken out of the others, wherever it was; else nothing changes
pub record TakesOut (old : Keys) (key : ℕ) (new : Keys) : Type 0 where
  pub room : new.room ≡ old.room
  pub gone : IsIn key old.keys → IsWithout old.keys key new.keys
  pub was_out : IsOut key old.keys → new.keys ≡ old.keys
