-- What a Range header spells (RFC 7826, sections 18.40 and 20.2.3), and what is wrong with one.
use Rattle.std.specs.Prelude.{◌≡◌, ℕ, ◌⊎◌, List, [], ◌∷◌, ◌++◌, codes, Option, Some, None}
use Rattle.rtsp_npt.specs.Bytes.{equals, dash, IsToken, IsNpt}
use Rattle.rtsp_npt.specs.Times.{SpellsTime}
use Rattle.rtsp_npt.specs.declared.range.Range.{Range}
use Rattle.rtsp_npt.specs.declared.time.Time.{Time}
use Rattle.rtsp_npt.specs.declared.fault.RangeFault.{RangeFault}
use Rattle.rtsp_npt.specs.declared.fault.RangeFault.TheVariants as faults

-- these times in the unit `npt`
pub record HasTimes (text times : List ℕ) : Type 0 where
  pub unit : List ℕ
  pub npt : IsNpt unit
  pub parts : text ≡ unit ++ equals ∷ times

-- what stands at a side of the dash: nothing, or a time
abbrev pub SpellsSide : List ℕ → Option Time → Type 0
SpellsSide text None = text ≡ []
SpellsSide text (Some time) = SpellsTime text time.nanos

-- both sides of the dash
pub record SpellsSides (text : List ℕ) (start stop : Option Time) : Type 0 where
  pub first : List ℕ
  pub last : List ℕ
  pub times : HasTimes text (first ++ dash ∷ last)
  pub spells_start : SpellsSide first start
  pub spells_stop : SpellsSide last stop

-- the unit alone has neither a start nor a stop; with a dash there is one of them at least
abbrev pub SpellsBounds : List ℕ → Option Time → Option Time → Type 0
SpellsBounds text None None = IsNpt text
SpellsBounds text None (Some stop) = SpellsSides text None (Some stop)
SpellsBounds text (Some start) stop = SpellsSides text (Some start) stop

-- the text spells the range
abbrev pub SpellsRange : List ℕ → Range → Type 0
SpellsRange text range = SpellsBounds text range.start range.stop

-- a token that is another unit
pub record IsOtherUnit (unit : List ℕ) : Type 0 where
  pub token : IsToken unit
  pub other : ¬ IsNpt unit

-- something in another unit
pub record HasOtherUnit (text : List ℕ) : Type 0 where
  pub unit : List ℕ
  pub rest : List ℕ
  pub other : IsOtherUnit unit
  pub parts : text ≡ unit ++ equals ∷ rest

-- another unit alone, or something in it
abbrev pub IsNotNpt : List ℕ → Type 0
IsNotNpt text = IsOtherUnit text ⊎ HasOtherUnit text

-- `now` at either side of the dash, whatever is at the other
pub record HasNow (text : List ℕ) : Type 0 where
  pub other : List ℕ
  pub times : HasTimes text (codes "now" ++ dash ∷ other) ⊎ HasTimes text (other ++ dash ∷ codes "now")

-- any other text that spells no range
pub record IsBadNpt (text : List ℕ) : Type 0 where
  pub not_other : ¬ IsNotNpt text
  pub not_now : ¬ HasNow text
  pub no_range : (r : Range) → ¬ SpellsRange text r

-- the text has the fault
abbrev pub HasFault : List ℕ → RangeFault → Type 0
HasFault text faults.NotNpt = IsNotNpt text
HasFault text faults.Now = HasNow text
HasFault text faults.BadNpt = IsBadNpt text
