-- The numbers under which seats hold and add: whose uses stand in a history, and in a journal of it.
use Rattle.std.specs.Prelude.{◌≡◌, ◌≢◌, ◌==◌, ℕ, ◌≤◌, Bool, true, false, List, [], filter, Option, Some, None}
use Rattle.std.specs.FinMap.{get}
use Rattle.rtsp_record.specs.declared.changes.Entry.{Entry}
use Rattle.rtsp_record.specs.declared.changes.Record.{Record}
use Rattle.rtsp_record.specs.declared.changes.Record.TheVariants.{Hold, Add}
use Rattle.rtsp_record.specs.Books.{Session, Book, under}
use Rattle.rtsp_record.specs.Journals.{is_add_of}
use Rattle.rtsp_book.specs.declared.steps.Step.{Step}
use Rattle.rtsp_book.specs.declared.steps.Step.TheVariants.{HoldRate, HoldPair, HoldPort, HoldChan, Commit}
use Rattle.rtsp_lock.specs.declared.view.View.{View}
use Rattle.rtsp_lock.specs.Entries.{OnlyOf, Part, Has}

-- a Hold or Add under the admission
abbrev pub is_use_of : ℕ → Record → Bool
is_use_of a (Hold h) = h.admission == a
is_use_of a (Add d) = d.admission == a
is_use_of a change = false

-- the Holds and Adds under an admission, in order
abbrev pub uses : ℕ → List Entry → List Entry
uses a j = filter (λ e. is_use_of a e.change) j

-- the Adds under an admission, in order
abbrev pub streams_under : ℕ → List Entry → List Entry
streams_under a j = filter (λ e. is_add_of a e.change) j

-- each number under which these entries hold or add is among the numbers
abbrev pub UnderThese : List ℕ → List Entry → Type 0
UnderThese numbers j = (n : ℕ) → uses n j ≢ [] → Has numbers n

-- each number under which the seat's own entries hold or add is one that it drew
abbrev pub UsesDrawn : View → Type 0
UsesDrawn v = UnderThese v.drawn v.mine

-- the admission under which a step holds or adds
abbrev pub admission_of : Step → Option ℕ
admission_of (HoldRate s a bits) = Some a
admission_of (HoldPair s a from) = Some a
admission_of (HoldPort s a from) = Some a
admission_of (HoldChan h) = Some h.admission
admission_of (Commit c) = Some c.admission
admission_of step = None

-- a step names a number that the seat drew, or none
abbrev pub NamesDrawn : View → Step → Type 0
NamesDrawn v step = (a : ℕ) → admission_of step ≡ Some a → Has v.drawn a

-- the seat drew the number, where it may use no others
abbrev pub MayUse : Bool → View → ℕ → Type 0
MayUse false v n = Unit {0}
MayUse true v n = Has v.drawn n

-- a step names a number that the seat drew, or none, where it may use no others
abbrev pub MayName : Bool → View → Step → Type 0
MayName false v step = Unit {0}
MayName true v step = NamesDrawn v step

-- no session has a stream under the number
abbrev pub HasNoStream : ℕ → Book → Type 0
HasNoStream n b = (s : ℕ) (f : Session) → get b s ≡ Some f → (under f n).stream ≡ None

-- under a number that never had a stream a journal has no uses but some of the history's
abbrev pub IsBacked : List Entry → List Entry → Type 0
IsBacked h j = (n : ℕ) → streams_under n h ≡ [] → Part (uses n j) (uses n h)

-- in a history each use of a number that the seat drew is the seat's, where all seats of its lock use drawn numbers alone; the journal is backed by it
pub record UsedBy (v : View) (h j : List Entry) : Type 0 where
  pub own : v.numbers_drawn ≡ true → (n : ℕ) → Has v.drawn n → OnlyOf v.actor (uses n h)
  pub backed : IsBacked h j

-- so it is of what the seat has seen
abbrev pub DrawnAlone : View → Type 0
DrawnAlone v = UsedBy v v.history v.seen

-- in a history no number from this one on is used, where all seats use drawn numbers alone
abbrev pub IsUnusedFrom : ℕ → View → List Entry → Type 0
IsUnusedFrom next v h = v.numbers_drawn ≡ true → (n : ℕ) → next ≤ n → uses n h ≡ []
