-- Since when a connection is silent, and owes the rest of a message (RFC 7826, sections 10.5 and 20.4.2).
use Rattle.std.specs.Prelude.{◌≡◌, ◌⊎◌, ℕ, zero, suc, ◌-◌, ◌≤◌, max, nat_lt, Bool, false, ◌||◌, if◌then◌else◌, Option, Some, None}
use Rattle.rtsp_threads.specs.declared.limits.TheConstants.{SILENCE_LIMIT, MESSAGE_LIMIT}
use Rattle.rtsp_threads.specs.declared.activity.Activity.{Activity}

-- one that was accepted at this moment
abbrev pub accepted : ℕ → Activity
accepted now = record { has_setup = false; heard = now; begun = None }

-- since when it owes the rest of a message, once a piece came behind which so many bytes are held of `all`: where fewer
-- are held than that, a message was finished and the rest is of another one
abbrev pub owing_since : (now all held : ℕ) → Option ℕ → Option ℕ
owing_since now all zero before = None
owing_since now all (suc held) None = Some now
owing_since now all (suc held) (Some begun) = Some (if nat_lt (suc held) all then now else begun)

-- a piece came at this moment
pub record Heard (now all held : ℕ) (has_setup : Bool) (before after : Activity) : Type 0 where
  pub heard : after.heard ≡ now
  pub setup : after.has_setup ≡ (before.has_setup || has_setup)
  pub begun : after.begun ≡ owing_since now all held before.begun

-- for how long it may be silent where sessions live for so long without a request
abbrev pub silence_of : ℕ → Activity → ℕ
silence_of timeout it = if it.has_setup then max SILENCE_LIMIT timeout else SILENCE_LIMIT

-- it was begun so long ago that it has to be finished
abbrev pub IsUnfinished : ℕ → Option ℕ → Type 0
IsUnfinished moment None = ⊥
IsUnfinished moment (Some begun) = MESSAGE_LIMIT ≤ moment - begun

-- it has to be closed at this moment
abbrev pub IsOverdue : (moment timeout : ℕ) → Activity → Type 0
IsOverdue moment timeout it = (silence_of timeout it ≤ moment - it.heard) ⊎ IsUnfinished moment it.begun
