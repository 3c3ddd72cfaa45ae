-- What a session is, as tests.
use Rattle.std.specs.Prelude.{◌≡◌, ℕ, Bool, nat_lt, is_some, Some}
use Rattle.std.specs.FinMap.{get}
use Rattle.rtsp_record.specs.Books.{Session, Book, under}
use Rattle.rtsp_record.specs.Sums.{of_session, streams}

-- a stream stands under the admission
abbrev pub has_stream_under : Session → ℕ → Bool
has_stream_under f a = is_some (under f a).stream

-- the session has a stream
abbrev pub has_stream : Session → Bool
has_stream f = nat_lt 0 (of_session streams f)

-- the session of this number lives, and is this one
abbrev pub Lives : Book → ℕ → ℕ × Session → Type 0
Lives b s v = (v.0 ≡ s) × (get b s ≡ Some v.1)
