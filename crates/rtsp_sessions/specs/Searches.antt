-- The first row that passes, and what the rows of sessions and of admissions are searched for.
use Rattle.std.specs.Prelude.{◌==◌, ℕ, Bool, true, false, ◌&&◌, ◌||◌, nat_le, if◌then◌else◌, List, [], ◌∷◌, is_some, Option, Some, None}
use Rattle.std.specs.FinMap.{entries}
use Rattle.rtsp_record.specs.declared.holdings.Thing.{Thing}
use Rattle.rtsp_record.specs.declared.holdings.Thing.TheVariants.{Pair, Port, Chan, Rate}
use Rattle.rtsp_record.specs.declared.streams.Stream.{Stream}
use Rattle.rtsp_record.specs.declared.holdings.Admission.{Admission}
use Rattle.rtsp_record.specs.Books.{Session}

-- the first row that passes
abbrev pub first_with : {X : Type 0} → (ℕ × X → Bool) → List (ℕ × X) → Option (ℕ × X)
first_with p [] = None
first_with p (e ∷ es) = if p e then Some e else first_with p es

-- the stream is there and is of this track
abbrev pub is_track : ℕ → Option Stream → Bool
is_track t None = false
is_track t (Some v) = v.track == t

-- under the admission is a stream of this track
abbrev pub is_of_track : ℕ → ℕ × Admission → Bool
is_of_track t e = is_track t e.1.stream

-- the session expires at this moment or before
abbrev pub is_expired : ℕ → ℕ × Session → Bool
is_expired now e = nat_le e.1.expires now

-- a stream stands under each of these admissions
abbrev pub all_streaming : List (ℕ × Admission) → Bool
all_streaming [] = true
all_streaming (e ∷ es) = is_some e.1.stream && all_streaming es

-- no SETUP of the session is under way
abbrev pub is_settled : Session → Bool
is_settled f = all_streaming (entries f.admissions)

-- channels of the connection
abbrev pub is_chan_of : ℕ → Option Thing → Bool
is_chan_of c None = false
is_chan_of c (Some (Pair p)) = false
is_chan_of c (Some (Port p)) = false
is_chan_of c (Some (Chan d k)) = d == c
is_chan_of c (Some (Rate n)) = false

-- the session holds channels of the connection
abbrev pub is_channelled : ℕ → Session → Bool
is_channelled c f = is_some (first_with (λ e. is_chan_of c e.1.address) (entries f.admissions))

-- a binding of the connection
abbrev pub is_binding_of : ℕ → Option (ℕ × ℕ) → Bool
is_binding_of c None = false
is_binding_of c (Some k) = k.0 == c

-- the session has a binding of the connection
abbrev pub is_bound_on : ℕ → Session → Bool
is_bound_on c f = is_binding_of c f.binding

-- the session holds channels, or has a binding, of the connection
abbrev pub is_on : ℕ → ℕ × Session → Bool
is_on c e = is_channelled c e.1 || is_bound_on c e.1
