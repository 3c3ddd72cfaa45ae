-- What a sweep ends, and what is there after it.
use Rattle.std.specs.Prelude.{◌≡◌, ℕ, Bool, true, false, List, All, length, flat_map, Some}
use Rattle.std.specs.FinMap.{get}
use Rattle.rtsp_record.specs.declared.changes.Record.{Record}
use Rattle.rtsp_record.specs.Books.{Session, Book, book_of}
use Rattle.rtsp_sessions.specs.Searches.{is_expired, is_on}
use Rattle.rtsp_book.specs.Made.{hanging_up}
use Rattle.rtsp_book.specs.Returns.{ending}
use Rattle.rtsp_lock.specs.declared.view.View.{View}
use Rattle.rtsp_lock.specs.Laws.{Grown}

-- the records of a hang-up for one session: its end where it holds channels of the connection, else the end of its startup number
abbrev pub leaving : ℕ → ℕ × Session → List Record
leaving conn e = hanging_up conn (Some e)

-- the end of a session
abbrev pub ended : ℕ × Session → List Record
ended e = ending e.0 e.1

-- the calls recorded just these records of so many sessions, each of which passed the test, and by them the
-- seat has grown
pub record EndsOnly (test : ℕ × Session → Bool) (records : ℕ × Session → List Record) (count : ℕ) (v u : View) : Type 0 where
  pub sessions : List (ℕ × Session)
  pub each : length sessions ≡ count
  pub due : All (λ e. test e ≡ true) sessions
  pub grown : Grown v u (flat_map records sessions)

-- no living session passes the test
abbrev pub NoneLeft : (ℕ × Session → Bool) → Book → Type 0
NoneLeft test b = (s : ℕ) (f : Session) → get b s ≡ Some f → test (s, f) ≡ false

-- the sessions that had expired at a moment are ended, so many, and nothing else
abbrev pub EndsExpired : ℕ → ℕ → View → View → Type 0
EndsExpired now count v u = EndsOnly (is_expired now) ended count v u

-- none has expired in the journal last seen
abbrev pub NoneExpired : ℕ → View → Type 0
NoneExpired now u = NoneLeft (is_expired now) (book_of u.seen)

-- so many sessions on a connection leave it, and nothing else
abbrev pub EndsOn : ℕ → ℕ → View → View → Type 0
EndsOn conn count v u = EndsOnly (is_on conn) (leaving conn) count v u

-- in the journal last seen no session holds channels or has a startup number of the connection
abbrev pub NoneOn : ℕ → View → Type 0
NoneOn conn u = NoneLeft (is_on conn) (book_of u.seen)
