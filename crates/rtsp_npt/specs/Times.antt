-- Times of normal play time (RFC 7826, sections 4.4.2 and 20.2.3), in nanoseconds.
use Rattle.std.specs.Prelude.{◌≡◌, ℕ, ◌+◌, ◌-◌, ◌*◌, ◌^◌, ◌≤◌, ◌⊎◌, List, ◌∷◌, ◌++◌, length}
use Rattle.std.specs.Str.Parse.{AllDigits, digits_value}
use Rattle.rtsp_text.specs.Decimal.{SpellsNumber}
use Rattle.rtsp_npt.specs.Bytes.{colon, point}

-- the minutes of an hour, or the seconds of a minute
pub record SpellsSixtieth (text : List ℕ) (n : ℕ) : Type 0 where
  pub number : SpellsNumber 2 text n
  pub below : n ≤ 59

-- hours, minutes and seconds, as a number of seconds
pub record SpellsClock (text : List ℕ) (n : ℕ) : Type 0 where
  pub hours : List ℕ
  pub minutes : List ℕ
  pub seconds : List ℕ
  pub parts : text ≡ hours ++ colon ∷ (minutes ++ colon ∷ seconds)
  pub hour : ℕ
  pub minute : ℕ
  pub second : ℕ
  pub spells_hour : SpellsNumber 19 hours hour
  pub spells_minute : SpellsSixtieth minutes minute
  pub spells_second : SpellsSixtieth seconds second
  pub value : n ≡ hour * 3600 + minute * 60 + second

-- seconds, in either form
abbrev pub SpellsSeconds : List ℕ → ℕ → Type 0
SpellsSeconds text n = SpellsNumber 19 text n ⊎ SpellsClock text n

-- the digits after the point, as nanoseconds
pub record SpellsFraction (text : List ℕ) (nanos : ℕ) : Type 0 where
  pub digits : AllDigits 10 text
  pub few : length text ≤ 9
  pub value : nanos ≡ digits_value 10 text * 10 ^ (9 - length text)

-- seconds and a fraction
pub record SpellsPointed (text : List ℕ) (nanos : ℕ) : Type 0 where
  pub whole : List ℕ
  pub fraction : List ℕ
  pub parts : text ≡ whole ++ point ∷ fraction
  pub second : ℕ
  pub behind : ℕ
  pub spells_second : SpellsSeconds whole second
  pub spells_behind : SpellsFraction fraction behind
  pub value : nanos ≡ second * 10 ^ 9 + behind

-- seconds without a fraction
pub record SpellsWhole (text : List ℕ) (nanos : ℕ) : Type 0 where
  pub second : ℕ
  pub spells_second : SpellsSeconds text second
  pub value : nanos ≡ second * 10 ^ 9

-- a time
abbrev pub SpellsTime : List ℕ → ℕ → Type 0
SpellsTime text nanos = SpellsWhole text nanos ⊎ SpellsPointed text nanos
