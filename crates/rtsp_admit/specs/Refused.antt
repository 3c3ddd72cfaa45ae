-- What an admission that is refused leaves.
use Rattle.std.specs.Prelude.{◌≡◌, ◌≢◌, ◌==◌, ℕ, Bool, false, List, [], filter, drop, length, Some, None, Err}
use Rattle.std.specs.FinMap.{get}
use Rattle.rtsp_record.specs.declared.changes.Entry.{Entry}
use Rattle.rtsp_record.specs.declared.changes.Record.{Record}
use Rattle.rtsp_record.specs.declared.changes.Record.TheVariants.{Open}
use Rattle.rtsp_record.specs.Books.{Session, Book, bare, under, book_of}
use Rattle.rtsp_record.specs.Journals.{less_session, less_admission}
use Rattle.rtsp_book.specs.declared.asks.Ask.{Ask}
use Rattle.rtsp_book.specs.declared.refusals.Refusal.{Refusal}
use Rattle.rtsp_lock.specs.declared.view.View.{View}
use Rattle.rtsp_lock.specs.Entries.{Part}
use Rattle.rtsp_lock.specs.Numbers.{uses}
use Rattle.rtsp_admit.specs.Binder.{Calls}
use Rattle.rtsp_admit.specs.Runs.{State, Admits}

-- an Open of the session
abbrev pub is_open_of : ℕ → Record → Bool
is_open_of s (Open l) = l.session == s
is_open_of s change = false

-- the Opens of a session, in order
abbrev pub openings : ℕ → List Entry → List Entry
openings s j = filter (λ e. is_open_of s e.change) j

-- the entries that calls of a seat added to its own, from one view of it to another
abbrev pub added : View → View → List Entry
added v u = drop (length v.mine) u.mine

-- each Hold and Add under the admission in the journal then seen is one that these calls added
abbrev pub UsedAlone : ℕ → View → View → Type 0
UsedAlone a v u = Part (uses a u.seen) (uses a (added v u))

-- nothing is held and no stream is under the admission, in any session
abbrev pub NothingUnder : ℕ → Book → Type 0
NothingUnder a b = (s : ℕ) (f : Session) → get b s ≡ Some f → under f a ≡ bare

-- nothing is under the admission, and the book is that of the journal without it
pub record NothingLeft (a : ℕ) (j : List Entry) : Type 0 where
  pub nothing : NothingUnder a (book_of j)
  pub book : book_of (less_admission a j) ≡ book_of j

-- the session isn't alive, and the book is that of the journal without it
pub record SessionGone (s : ℕ) (j : List Entry) : Type 0 where
  pub gone : get (book_of j) s ≡ None
  pub book : book_of (less_session s j) ≡ book_of j

-- nothing of the admission is left, nor of the session where these calls opened it
pub record LeftNothing (ask : Ask) (v u : View) : Type 0 where
  pub admission : NothingLeft ask.admission u.seen
  pub session : openings ask.session (added v u) ≢ [] → SessionGone ask.session u.seen

-- nothing is left in the journal, nor in the history, which has every entry that was ever made
pub record LeftNothingEver (ask : Ask) (v u : View) : Type 0 where
  pub journal : LeftNothing ask v u
  pub history : NothingLeft ask.admission u.history
  pub session : openings ask.session (added v u) ≢ [] → SessionGone ask.session u.history

-- so it is where no other call used the admission's number
abbrev pub LeavesNothing : Ask → View → View → Type 0
LeavesNothing ask v u = UsedAlone ask.admission v u → LeftNothing ask v u

module _ {B : Type 0} (calls : Calls B) (ask : Ask) where
  -- a refused admission leaves nothing, whatever others did between its steps
  abbrev pub RefusalsLeaveNothing : Type 0
  RefusalsLeaveNothing = (refusal : Refusal) (s t : State B) → Admits calls ask (Err refusal) s t → LeavesNothing ask s.view t.view
