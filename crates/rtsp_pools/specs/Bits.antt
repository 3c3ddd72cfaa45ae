-- Numbers as bits of words of 64 bits, with a summary of the words.
use Rattle.std.specs.Prelude.{◌≡◌, ◌≢◌, ◌==◌, ℕ, zero, suc, ◌+◌, ◌*◌, ◌/◌, ◌%◌, ◌<◌, ◌≤◌, Bool, ◌&&◌, List, length, slice_index}
use Rattle.std.specs.Int.{bit_at}

-- the bit of a number; a number past the words has 0
abbrev pub bit_of : List ℕ → ℕ → ℕ
bit_of words k = bit_at (slice_index words (k / 64)) (k % 64)

-- a number is there
abbrev pub has : List ℕ → ℕ → Bool
has words k = bit_of words k == 1

-- a number is put in or taken out, and each other is there as it was
pub record IsPut (number : ℕ) (is_there : Bool) (old new : List ℕ) : Type 0 where
  pub here : has new number ≡ is_there
  pub others : (k : ℕ) → k ≢ number → has new k ≡ has old k

-- a pair is there exactly where its two numbers are
abbrev pub ArePairsOf : List ℕ → List ℕ → Type 0
ArePairsOf numbers pairs = (k : ℕ) → has pairs k ≡ (has numbers (2 * k) && has numbers (2 * k + 1))

-- how many of the first n are there
unfoldable pub count_below : List ℕ → ℕ → ℕ
count_below words zero = 0
count_below words (suc n) = count_below words n + bit_of words n

-- there are words for all numbers and bits for all words, a word isn't 0 exactly where its bit of the summary is on, no number past the limit is there, and so many are
pub record IsSummed (limit : ℕ) (words summary : List ℕ) (count : ℕ) : Type 0 where
  pub long : limit ≤ 64 * length words
  pub tall : length words ≤ 64 * length summary
  pub few : length summary ≤ 1024
  pub none : (w : ℕ) → bit_of summary w ≡ 0 → slice_index words w ≡ 0
  pub some : (w : ℕ) → bit_of summary w ≡ 1 → 0 < slice_index words w
  pub past : (k : ℕ) → limit ≤ k → bit_of words k ≡ 0
  pub counted : count ≡ count_below words limit
