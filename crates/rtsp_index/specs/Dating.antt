-- The moments of places, and rows whose expiries they are.
use Rattle.std.specs.Prelude.{◌≡◌, ℕ, ◌+◌, ◌<◌, Some, slice_index}
use Rattle.slab.specs.Slab.{Slab, get}
use Rattle.rtsp_record.specs.Books.{Session}
use Rattle.rtsp_index.specs.declared.moments.Moments.{Moments}

-- the moment of a place
abbrev pub moment_at : Moments → ℕ → ℕ
moment_at m p = slice_index m.least.items (m.places + p)

-- at the place of each row stands its expiry
abbrev pub AreDated : Slab (ℕ × Session) → Moments → Type 0
AreDated rows m = (k : ℕ) (v : ℕ × Session) → get rows k ≡ Some v → (k < m.places) × (moment_at m k ≡ v.1.expires)
