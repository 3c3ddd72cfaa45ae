-- Which places are withdrawn: what stands there is offered no more.
use Rattle.std.specs.Prelude.{◌≡◌, ℕ, Bool, false, List, Option, Some, None, slice_get}

-- what is said of a place; of one behind the last nothing is
abbrev pub is_gone : Option Bool → Bool
is_gone (Some gone) = gone
is_gone None = false

-- the presentation at the place is offered no more
abbrev pub is_withdrawn : List Bool → ℕ → Bool
is_withdrawn withdrawn p = is_gone (slice_get withdrawn p)

-- no name is at two places that are offered
abbrev pub AreOfferedDistinct : List Bool → List (List ℕ) → Type 0
AreOfferedDistinct withdrawn names =
    (i j : ℕ) (name : List ℕ) → slice_get names i ≡ Some name → slice_get names j ≡ Some name
    → is_withdrawn withdrawn i ≡ false → is_withdrawn withdrawn j ≡ false → i ≡ j
