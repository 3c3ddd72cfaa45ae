-- The units at which a play may begin.
use Rattle.std.specs.Prelude.{ℕ, ◌-◌, ◌<◌, ◌≤◌, max, nat_le, if◌then◌else◌, List, [], ◌∷◌, Option, Some, None, All, Contains}

-- a play may begin at the unit; at each one where a presentation says none
abbrev pub IsStart : Option (List ℕ) → ℕ → Type 0
IsStart None unit = Unit {0}
IsStart (Some starts) unit = Contains starts unit

-- the unit is the last start up to where a play was asked to begin
pub record IsLastStart (starts : Option (List ℕ)) (asked unit : ℕ) : Type 0 where
  pub start : IsStart starts unit
  pub before : unit ≤ asked
  pub last : (other : ℕ) → IsStart starts other → other ≤ asked → other ≤ unit

-- the beginning is among those that are said, and each is a unit of the media
abbrev pub AreStarts : ℕ → Option (List ℕ) → Type 0
AreStarts units None = Unit {0}
AreStarts units (Some starts) = Contains starts 0 × All (λ s. s < units) starts

-- The same as functions.

-- the greatest of these that is at most what was asked, or 0
abbrev pub greatest_to : List ℕ → ℕ → ℕ
greatest_to [] asked = 0
greatest_to (s ∷ ss) asked = if nat_le s asked then max s (greatest_to ss asked) else greatest_to ss asked

abbrev pub start_at : Option (List ℕ) → ℕ → ℕ
start_at None asked = asked
start_at (Some starts) asked = greatest_to starts asked

-- the most units from one to the next, of one that is before them, and from the last to the end
abbrev pub gap_from : ℕ → List ℕ → ℕ → ℕ
gap_from before [] units = units - before
gap_from before (s ∷ ss) units = max (s - before) (gap_from s ss units)

-- the most units from one start to the next (Random-Access, RFC 7826 section 18.29)
abbrev pub longest_gap : Option (List ℕ) → ℕ → ℕ
longest_gap None units = 1
longest_gap (Some starts) units = gap_from 0 starts units
