-- Rows by place, and the book of sessions that have places.
use Rattle.std.specs.Prelude.{◌≡◌, ℕ, List, [], ◌∷◌, option_map, Option, Some}
use Rattle.std.specs.FinMap.{empty}
use Rattle.slab.specs.Slab.{Slab, get}
use Rattle.rtsp_record.specs.Tables.{set}
use Rattle.rtsp_record.specs.Books.{Session, Book}

-- the session of a row
abbrev pub row_at : Slab (ℕ × Session) → ℕ → Option Session
row_at rows k = option_map (λ v. v.1) (get rows k)

-- the book of these numbers with their places
abbrev pub gathered : Slab (ℕ × Session) → List (ℕ × ℕ) → Book
gathered rows [] = empty
gathered rows (e ∷ es) = set (gathered rows es) e.0 (row_at rows e.1)

-- the number of a row
abbrev pub number_at : Slab (ℕ × Session) → ℕ → Option ℕ
number_at rows k = option_map (λ v. v.0) (get rows k)

-- at the place of a number stands a row of that number
abbrev pub IsPlaced : (ℕ → Option ℕ) → Slab (ℕ × Session) → Type 0
IsPlaced places rows = (s k : ℕ) → places s ≡ Some k → number_at rows k ≡ Some s
