-- When the next packet of a play is due.
use Rattle.std.specs.Prelude.{ℕ, ◌*◌, ◌<◌, ◌≤◌, ◌^◌, length}
use Rattle.rtsp_record.specs.Moments.{due}
use Rattle.rtsp_rtp.specs.Pacing.{Pacing, begun_at}

-- a packet is due at the moment, and unsent
abbrev pub HasDue : Pacing → ℕ → Type 0
HasDue p m = p.done < due p.phase p.unit_ms m * length p.sources

-- the first moment since the beginning of the play at which a packet is due and unsent
pub record IsNextDue (p : Pacing) (m : ℕ) : Type 0 where
  pub begun : begun_at p.phase ≤ m
  pub due : HasDue p m
  pub first : (n : ℕ) → begun_at p.phase ≤ n → HasDue p n → m ≤ n

-- there is no such moment
abbrev pub IsNeverDue : Pacing → Type 0
IsNeverDue p = (m : ℕ) → m < 2 ^ 64 → ¬ (HasDue p m)
