-- When a port that refuses datagrams is sent no more.
use Rattle.std.specs.Prelude.{◌≡◌, ℕ, ◌+◌, ◌-◌, ◌^◌, ◌<◌, ◌≤◌, min, Some, None, unwrap_or}
use Rattle.rtsp_pacing.specs.declared.refusals.Refusals.{Refusals}
use Rattle.rtsp_pacing.specs.declared.refusals.TheConstants.{REFUSED_FOR, SPARED_FOR}

-- no datagram was refused
abbrev pub unrefused : Refusals
unrefused = record { since = None; spared_until = 0 }

-- since when each was refused, the one at this moment too
abbrev pub refused_since : Refusals → ℕ → ℕ
refused_since old now = unwrap_or old.since now

-- one more was refused: that counts on, or all were for so long that the port is spared from then on
pub record IsRefused (old : Refusals) (now : ℕ) (new : Refusals) : Type 0 where
  pub counts : now < refused_since old now + REFUSED_FOR → new ≡ record { since = Some (refused_since old now); spared_until = old.spared_until }
  pub spared : refused_since old now + REFUSED_FOR ≤ now → new ≡ record { since = None; spared_until = min (now + SPARED_FOR) (2 ^ 64 - 1) }
