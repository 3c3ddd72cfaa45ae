-- The channels that a client asks for (RFC 7826 section 18.54, interleaved).
use Rattle.std.specs.Prelude.{◌≡◌, ◌≤◌, ◌+◌, ◌%◌, ◌==◌, ◌&&◌, nat_le, ℕ, List, ◌∷◌, ◌++◌, Option, Some, None, if◌then◌else◌}
use Rattle.rtsp_text.specs.Options.{◌>>=◌}
use Rattle.rtsp_text.specs.Decimal.{SpellsNumber, number_of}
use Rattle.rtsp_text.specs.SplitOnce.{split_once}

-- The text is two channels joined by a dash: an even one of at most 254, and the next.
pub record SpellsPair (text : List ℕ) (channel : ℕ) : Type 0 where
  pub first : List ℕ
  pub second : List ℕ
  pub parts : text ≡ first ++ 45 ∷ second
  pub low : SpellsNumber 3 first channel
  pub high : SpellsNumber 3 second (channel + 1)
  pub even : channel % 2 ≡ 0
  pub few : channel ≤ 254

-- the pair of a text, by its first channel, or none
abbrev pub IsPairOf : List ℕ → Option ℕ → Type 0
IsPairOf text (Some channel) = SpellsPair text channel
IsPairOf text None = (channel : ℕ) → ¬ SpellsPair text channel

-- the pair that begins at a channel
abbrev pub pair_at : ℕ → Option ℕ
pair_at low = if low % 2 == 0 && nat_le low 254 then Some low else None

-- the pair of two channels
abbrev pub pair_in : ℕ → ℕ → Option ℕ
pair_in low high = if nat_le low 254 && (high == low + 1) then pair_at low else None

-- the one pair of a text, read from left to right
unfoldable pub pair_of : List ℕ → Option ℕ
pair_of text = do
  parts ← split_once 45 text
  low ← number_of 3 parts.0
  high ← number_of 3 parts.1
  pair_in low high
