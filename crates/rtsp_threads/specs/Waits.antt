-- For how long room in the journal is waited for, and when it is looked for.
use Rattle.std.specs.Prelude.{◌≤◌, ◌+◌, ◌-◌, ℕ, Option, Some, None}
use Rattle.rtsp_threads.specs.declared.limits.TheConstants.{ROOM_LIMIT}

-- a wait that began at some moment has lasted for as long as it may
abbrev pub HasWaited : Option ℕ → ℕ → Type 0
HasWaited None now = ⊥
HasWaited (Some since) now = since + ROOM_LIMIT ≤ now

-- the next look, if there is one to wait for, has come
abbrev pub IsDue : Option ℕ → ℕ → Type 0
IsDue None now = Unit {0}
IsDue (Some at) now = at ≤ now

-- how long it is until then
abbrev pub left_until : Option ℕ → ℕ → ℕ
left_until None now = 0
left_until (Some at) now = at - now
