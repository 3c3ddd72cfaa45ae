-- A buffer that responses are written into.
use Rattle.std.specs.Prelude.{ℕ, ◌+◌, ◌≤◌, length, List}

-- what is written, and how many bytes more fit without more memory
pub record RoomText : Type 0 where
  pub text : List ℕ
  pub spare : ℕ

-- bytes were added: no more than so many, and no more of the room was used
pub record Takes (old new : RoomText) (most : ℕ) : Type 0 where
  pub within : length new.text ≤ length old.text + most
  pub spare : old.spare ≤ new.spare + most
