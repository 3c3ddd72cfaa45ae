-- What a look at the book tells of a session.
use Rattle.std.specs.Prelude.{◌↔◌, ℕ, Bool, IsTrue, IsSome}
use Rattle.rtsp_record.specs.Books.{book_of}
use Rattle.rtsp_sessions.specs.Lookups.{session_at}
use Rattle.rtsp_lock.specs.declared.view.View.{View}
use Rattle.rtsp_lock.specs.Calls.{Looked}

-- by one look a session of this number was found to live, or not to
pub record TellsOf (before after : View) (number : ℕ) (lives : Bool) : Type 0 where
  pub looked : Looked before after
  pub told : IsTrue lives ↔ IsSome (session_at (book_of after.seen) number)
