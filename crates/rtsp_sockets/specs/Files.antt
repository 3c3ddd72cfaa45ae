-- What is read of files.
use Rattle.std.specs.Prelude.{◌≡◌, ℕ, ◌+◌, List, length, Option, Some, slice_range, vec_len, IsSomeAnd}
use Rattle.std.specs.Global.{Vec}

-- these bytes stand at a place of a file, where its bytes are known
abbrev pub StandAt : Option (List ℕ) → ℕ → List ℕ → Type 0
StandAt text at bytes = (file : List ℕ) → text ≡ Some file → bytes ≡ slice_range file at (at + length bytes)

-- so many bytes are held
abbrev pub Holds : Option (Vec ℕ) → ℕ → Type 0
Holds held len = IsSomeAnd held (λ bytes. vec_len bytes ≡ len)
