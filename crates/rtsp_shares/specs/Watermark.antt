-- Up to which moment a sweep may end what is over.
use Rattle.std.specs.Prelude.{◌≡◌, ℕ, ◌≤◌, List, [], ◌∷◌, Some, None, max, slice_get, slice_set}

-- the moments up to which the lanes have read all that had come, and those of the last sweeps, the oldest first
pub record Marks : Type 0 where
  pub read : List ℕ
  pub sweeps : List ℕ

-- a lane has read up to a moment, or further before; the others are as they were
pub record IsNoted (old new : List ℕ) (lane moment : ℕ) : Type 0 where
  pub there : (read : ℕ) → slice_get old lane ≡ Some read → new ≡ slice_set old lane (max moment read)
  pub none : slice_get old lane ≡ None → new ≡ old

-- the moment of the oldest of the last sweeps
abbrev pub oldest : List ℕ → ℕ
oldest [] = 0
oldest (moment ∷ later) = moment

-- every lane has read up to a moment, or was waited for long enough, since a sweep that old
abbrev pub AllAllow : ℕ → ℕ → List ℕ → Type 0
AllAllow oldest moment [] = Unit {0}
AllAllow oldest moment (read ∷ others) = (moment ≤ max oldest read) × AllAllow oldest moment others

-- the greatest moment that has come and that every lane allows
pub record IsMark (oldest : ℕ) (read : List ℕ) (now mark : ℕ) : Type 0 where
  pub come : mark ≤ now
  pub allowed : AllAllow oldest mark read
  pub greatest : (moment : ℕ) → moment ≤ now → AllAllow oldest moment read → moment ≤ mark
