-- Moments, and before them the lesser of each two.
use Rattle.std.specs.Prelude.{◌≡◌, ℕ, ◌+◌, ◌*◌, ◌<◌, ◌≤◌, min, List, length, slice_index}

-- of so many places: the moments stand behind as many numbers, of which each from 1 on is the lesser of the two at twice its index and right after that
pub record AreLessers (places : ℕ) (ms : List ℕ) : Type 0 where
  pub long : length ms ≡ 2 * places
  pub lesser : (i : ℕ) → 1 ≤ i → i < places → slice_index ms i ≡ min (slice_index ms (2 * i)) (slice_index ms (2 * i + 1))
