-- Known bytes of a stream.
use Rattle.std.proofs.Common.{ℕ, List, [], Option, None, Some, take, arith}
use Rattle.std.proofs.KnownBytes.{Appends-kept, Appends-nil, Appends-trans, Keeps-trans}
use Rattle.std.specs.Io.KnownBytes.{Appends, Keeps}
use Rattle.rtsp_sockets.specs.Passing.{Tries}

pub appends_kept_none : (a b : Option (List ℕ)) → Keeps a b → Appends a b []
appends_kept_none a b p = Appends-kept a a b [] (Appends-nil a) p

-- a try after others that were interrupted
pub tries_after : (a b c : Option (List ℕ)) (bytes : List ℕ) (taken : Option ℕ) → Keeps a b → Tries b c bytes taken → Tries a c bytes taken
tries_after a b c bytes None p q = Keeps-trans a b c p q
tries_after a b c bytes (Some n) p q = (q.0, Appends-trans a b c [] (take n bytes) (appends_kept_none a b p) q.1)

-- and the end of all of them
pub tries_none : (a b : Option (List ℕ)) (bytes : List ℕ) → Keeps a b → Tries a b bytes (Some 0)
tries_none a b bytes p = (omega arith, appends_kept_none a b p)
