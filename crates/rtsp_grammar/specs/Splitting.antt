-- A text split at a byte, where what stands before it passes a test.
use Rattle.std.specs.Prelude.{ℕ, Bool, ◌==◌, List, [], ◌∷◌, Option, Some, None, if◌then◌else◌}
use Rattle.std.specs.List.{list_all}

-- front, and what follows the byte at the front of rest
abbrev pub at_byte : ℕ → List ℕ → List ℕ → Option (List ℕ × List ℕ)
at_byte byte front [] = None
at_byte byte front (b ∷ rest) = if b == byte then Some (front, rest) else None

-- the two halves of a split, where each byte of the first passes
abbrev pub where_all : (ℕ → Bool) → Option (List ℕ × List ℕ) → Option (List ℕ × List ℕ)
where_all test None = None
where_all test (Some halves) = if list_all test halves.0 then Some halves else None
