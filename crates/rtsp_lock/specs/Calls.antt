-- What the calls of a seat promise. Each tells the journal that it found, and the history of it.
use Rattle.std.specs.Prelude.{◌≡◌, ◌≢◌, ℕ, ◌+◌, ◌-◌, ◌≤◌, Bool, true, false, List, [], ◌∷◌, ◌++◌, length, Result}
use mathlib.Core.List.{IsPrefix}
use Rattle.rtsp_record.specs.declared.changes.Entry.{Entry}
use Rattle.rtsp_record.specs.declared.changes.Record.{Record}
use Rattle.rtsp_record.specs.Books.{book_of}
use Rattle.rtsp_record.specs.Sums.{owed}
use Rattle.rtsp_record.specs.Rules.{IsLegal}
use Rattle.rtsp_book.specs.declared.steps.Step.{Step}
use Rattle.rtsp_book.specs.declared.refusals.Refusal.{Refusal}
use Rattle.rtsp_book.specs.Answers.{Answers, written}
use Rattle.rtsp_book.specs.Kept.{History, history, entries_by, forgotten}
use Rattle.rtsp_book.specs.Checkpoints.{checkpointed, relieved, is_checkpoint_due}
use Rattle.rtsp_lock.specs.declared.view.View.{View}
use Rattle.rtsp_lock.specs.declared.lock.BookLock.{BookLock}
use Rattle.rtsp_lock.specs.declared.seat.BookSeat.{BookSeat}
use Rattle.rtsp_lock.specs.Entries.{entries_of, Later, LeftOf, Has}
use Rattle.rtsp_lock.specs.Numbers.{DrawnAlone}
use Rattle.rtsp_lock.specs.Rule.{Abreast}
use Rattle.rtsp_lock.specs.Steps.{Follows, holding, numbers}

-- what a seat knows
abbrev pub seat_view : BookSeat → View
seat_view s = s.seat.me.0

-- the seat is of this lock
abbrev pub IsSeatOf : {N : Type 0} → BookSeat → BookLock N → Type 0
IsSeatOf s l = s.seat.table_id ≡ l.table.shared.table_id

-- the same seat, of the same lock
abbrev pub SameSeat : BookSeat → BookSeat → Type 0
SameSeat s t = (t.seat.table_id ≡ s.seat.table_id) × (t.seat.id ≡ s.seat.id)

-- it knows as much of itself: whether its lock has other seats, and whether it keeps entries
abbrev pub KnowsSame : BookSeat → BookSeat → Type 0
KnowsSame s t = (t.is_shared ≡ s.is_shared) × (t.keeps_entries ≡ s.keeps_entries)

-- it knows that its lock has other seats, and keeps entries where that one does
abbrev pub IsSharedAs : BookSeat → BookSeat → Type 0
IsSharedAs s t = (t.is_shared ≡ true) × (t.keeps_entries ≡ s.keeps_entries)

-- it keeps entries from here on
abbrev pub KeepsEntries : BookSeat → BookSeat → Type 0
KeepsEntries s t = (t.is_shared ≡ s.is_shared) × (t.keeps_entries ≡ true)

-- its lock has no other seat, and it may shorten the journal
abbrev pub IsNewSeat : BookSeat → Type 0
IsNewSeat s = (s.is_shared ≡ false) × (s.keeps_entries ≡ false)

-- a journal that a call found, in a round: legal, within its limit, no earlier than what the seat had seen; of the seat's own entries it has
-- all but what was forgotten, or restated by a checkpoint
pub record Found (v : View) (j : List Entry) (r : ℕ) : Type 0 where
  pub legal : IsLegal v.whole j
  pub limit : length j + owed (book_of j) ≤ v.whole.journal
  pub later : Later v.seen_rounds v.seen r j
  pub mine : LeftOf v.mine (entries_of v.actor j)

-- the seat is the same actor's, of the same whole, and its next number is no lower; no number that it drew is lost; no seat was split off from
-- it; what it has now seen is such a journal, with its history, and in the same round both have grown alike; where
-- all seats use drawn numbers alone, nobody else ever used one of its own
pub record Stays (v v' : View) : Type 0 where
  pub whole : v'.whole ≡ v.whole
  pub actor : v'.actor ≡ v.actor
  pub next : v.next ≤ v'.next
  pub drawn : IsPrefix v.drawn v'.drawn
  pub cut : v'.cut ≡ v.cut
  pub stands : Found v' v'.seen v'.seen_rounds
  pub follows : Follows v' v'.history v'.seen
  pub abreast : Abreast v v'.seen_rounds v'.seen v'.history
  pub same_numbers : v'.numbers_drawn ≡ v.numbers_drawn
  pub used : DrawnAlone v'

-- the only seat of a lock finds the journal that it had seen, and is the only one still
pub record StaysAlone (v v' : View) (j : List Entry) : Type 0 where
  pub found : v.alone ≡ true → j ≡ v.seen
  pub still : v'.alone ≡ v.alone

-- a step was answered after the journal found, and its records stand behind that, and behind its history, as the seat's own
pub record Acted (v v' : View) (step : Step) (answer : Result (List Record) Refusal) : Type 0 where
  pub journal : List Entry
  pub found : Found v journal v'.seen_rounds
  pub history : List Entry
  pub follows : Follows v history journal
  pub answers : Answers v.whole journal step answer
  pub seen : v'.seen ≡ journal ++ entries_by v.actor (written answer)
  pub goes_on : v'.history ≡ history ++ entries_by v.actor (written answer)
  pub mine : v'.mine ≡ v.mine ++ entries_by v.actor (written answer)
  pub drawn : v'.drawn ≡ v.drawn
  pub alone : StaysAlone v v' journal
  pub stays : Stays v v'

-- the journal found was seen with its history, and both stay as they are
pub record Looked (v v' : View) : Type 0 where
  pub journal : List Entry
  pub found : Found v journal v'.seen_rounds
  pub seen : v'.seen ≡ journal
  pub follows : Follows v v'.history journal
  pub mine : v'.mine ≡ v.mine
  pub alone : StaysAlone v v' journal
  pub stays : Stays v v'

-- a seat's view as after a look at the journal found, but that another seat was split off from it, so that it is alone no more
abbrev pub LookedAndMade : View → View → Type 0
LookedAndMade v v' = Looked v (record v' { alone = v.alone; cut = v.cut })

-- a number was drawn: the next one found, none of those that the seat had drawn
pub record Drew (v v' : View) (n : ℕ) : Type 0 where
  pub fresh : ¬ (Has v.drawn n)
  pub up : v.next ≤ n
  pub drawn : v'.drawn ≡ v.drawn ++ n ∷ []
  pub next : v'.next ≡ n + 1

-- a seat was made, and no other, with the next number found as its actor and nothing of its own yet
pub record Made (v v' u : View) : Type 0 where
  pub whole : u.whole ≡ v.whole
  pub other : u.actor ≢ v.actor
  pub fresh : ¬ (Has v.drawn u.actor)
  pub up : v.next ≤ u.actor
  pub next : v'.next ≡ u.actor + 1
  pub same_next : u.next ≡ v'.next
  pub seen : u.seen ≡ v'.seen
  pub rounds : u.seen_rounds ≡ v'.seen_rounds
  pub history : u.history ≡ v'.history
  pub mine : u.mine ≡ []
  pub drawn : u.drawn ≡ []
  pub cut : v'.cut ≡ v.cut ++ u.actor ∷ []
  pub uncut : u.cut ≡ []
  pub alone : (v'.alone ≡ false) × (u.alone ≡ false)
  pub same_numbers : u.numbers_drawn ≡ v.numbers_drawn
  pub stands : Found u u.seen u.seen_rounds
  pub follows : Follows u u.history u.seen

-- ended sessions were forgotten in the journal found, and what is left was seen; its history stays
pub record Forgot (v v' : View) : Type 0 where
  pub journal : List Entry
  pub rounds : ℕ
  pub found : Found v journal rounds
  pub forgets : history v'.whole v'.seen v'.next v'.seen_rounds ≡ forgotten (history v.whole journal v'.next rounds)
  pub follows : Follows v v'.history journal
  pub mine : v'.mine ≡ v.mine
  pub drawn : v'.drawn ≡ v.drawn
  pub alone : StaysAlone v v' journal
  pub stays : Stays v v'

-- the book found, with its next number and its round, became another by this, and that was seen; the history stays
pub record Remade (by : History → History) (v v' : View) : Type 0 where
  pub journal : List Entry
  pub number : ℕ
  pub rounds : ℕ
  pub found : Found v journal rounds
  pub up : v.next ≤ number
  pub follows : Follows v v'.history journal
  pub makes : history v'.whole v'.seen v'.next v'.seen_rounds ≡ by (history v.whole journal number rounds)
  pub mine : v'.mine ≡ v.mine
  pub drawn : v'.drawn ≡ v.drawn ++ numbers number (v'.next - number)
  pub alone : StaysAlone v v' journal
  pub stays : Stays v v'

-- a checkpoint was made, under the number found
abbrev pub Checked : View → View → Type 0
Checked v v' = Remade checkpointed v v'

-- one was made where it was due in the journal found, with more entries than `above`; whether it was due is told
pub record Relieved (above : ℕ) (told : Bool) (v v' : View) : Type 0 where
  pub remade : Remade (relieved above) v v'
  pub due : told ≡ is_checkpoint_due above (history v.whole remade.journal remade.number remade.rounds)

-- the book was taken out with the journal found, and the seat holds the lock for good
pub record Finished (v v' : View) (h : History) : Type 0 where
  pub found : Found v h.journal h.rounds
  pub whole : h.whole ≡ v.whole
  pub follows : Follows v v'.history h.journal
  pub alone : StaysAlone v v' h.journal
  pub abreast : Abreast v h.rounds h.journal v'.history
  pub holds : v' ≡ holding v v'.history h.journal h.next h.rounds
