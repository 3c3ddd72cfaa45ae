-- The end of all sessions, by whoever has the book alone.
use Rattle.std.specs.Prelude.{◌≡◌, ℕ, List, flat_map}
use Rattle.rtsp_record.specs.Books.{Session}
use Rattle.rtsp_book.specs.Kept.{History, extended}
use Rattle.rtsp_expiry.specs.Endings.{ended}

-- these sessions were ended by the actor, one after another, and nothing else was done
pub record EndsAll (actor : ℕ) (old new : History) : Type 0 where
  pub sessions : List (ℕ × Session)
  pub noted : new ≡ extended old actor (flat_map ended sessions)
