-- The numbers of places: that of a place grows each time it is given to another presentation.
use Rattle.std.specs.Prelude.{ℕ, List, Option, Some, None, slice_get}

-- the number that is said of a place; of one behind the last none is, which is 0
abbrev pub number_in : Option ℕ → ℕ
number_in (Some number) = number
number_in None = 0

abbrev pub number_at : List ℕ → ℕ → ℕ
number_at numbers p = number_in (slice_get numbers p)
