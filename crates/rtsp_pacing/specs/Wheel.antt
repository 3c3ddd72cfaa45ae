-- The slots of a wheel.
use Rattle.std.specs.Prelude.{◌≡◌, ◌≢◌, ◌<◌, ◌≤◌, ◌+◌, ◌-◌, ◌^◌, ◌%◌, ℕ, List, Option, Some, None, min, max, slice_get, slice_set}

-- the key of the play linked last in each slot, and the moment up to which all is past
pub record Turning : Type 0 where
  pub heads : List (Option ℕ)
  pub done : ℕ

-- the last moment that a wheel comes to
abbrev pub last : ℕ
last = 2 ^ 64 - 1 - 1024

abbrev pub slot_of : ℕ → ℕ
slot_of moment = moment % 1024

-- what is linked to the slot of a moment
abbrev pub head : Turning → ℕ → Option (Option ℕ)
head w moment = slice_get w.heads (slot_of moment)

-- where a play is linked: at its moment, or at the nearer end of the round
abbrev pub place_of : Turning → ℕ → ℕ
place_of w due = min (max due (w.done + 1)) (w.done + 1023)

-- no slot has a play up to this moment
abbrev pub IsBareBefore : Turning → ℕ → Type 0
IsBareBefore w end = (moment : ℕ) → w.done < moment → moment < end → head w moment ≡ Some None

abbrev pub IsBare : Turning → Type 0
IsBare w = IsBareBefore w (w.done + 1024)

-- no slot has a play up to this moment, as far as the round goes
abbrev pub IsBareUntil : Turning → ℕ → Type 0
IsBareUntil w end = (moment : ℕ) → w.done < moment → moment ≤ end → moment < w.done + 1024 → head w moment ≡ Some None

-- the slot of this moment is the next that has a play
pub record IsNext (w : Turning) (moment : ℕ) : Type 0 where
  pub later : w.done < moment
  pub near : moment < w.done + 1024
  pub bare_before : IsBareBefore w moment
  pub full : head w moment ≢ Some None

-- the next slot that has a play was emptied of it, and its moment has come
pub record Taken (old : Turning) (now : ℕ) (new : Turning) (key : ℕ) : Type 0 where
  pub next : IsNext old new.done
  pub come : new.done ≤ now
  pub first : head old new.done ≡ Some (Some key)
  pub heads : new.heads ≡ slice_set old.heads (slot_of new.done) None

-- no slot whose moment has come has a play
pub record Passed (old : Turning) (now : ℕ) (new : Turning) : Type 0 where
  pub bare : IsBareUntil old (min now last)
  pub heads : new.heads ≡ old.heads
  pub done : new.done ≡ max old.done (min now last)
