-- The numbers under which a seat holds and adds. One that it drew itself is used by no other seat that keeps to its own.
use Rattle.std.specs.Prelude.{◌≡◌, ◌≢◌, ℕ, Bool, true, List, [], Contains, Result, Err}
use Rattle.rtsp_record.specs.declared.changes.Entry.{Entry}
use Rattle.rtsp_record.specs.declared.changes.Record.{Record}
use Rattle.rtsp_record.specs.declared.holdings.Whole.{Whole}
use Rattle.rtsp_book.specs.declared.asks.Admitted.{Admitted}
use Rattle.rtsp_book.specs.declared.asks.Ask.{Ask}
use Rattle.rtsp_book.specs.declared.refusals.Refusal.{Refusal}
use Rattle.rtsp_book.specs.declared.steps.Step.{Step}
use Rattle.rtsp_lock.specs.declared.view.View.{View}
use Rattle.rtsp_lock.specs.Entries.{Has, OnlyOf}
use Rattle.rtsp_lock.specs.Numbers.{uses, UsesDrawn, NamesDrawn}
use Rattle.rtsp_lock.specs.Calls.{Acted, Looked, Drew}
use Rattle.rtsp_lock.specs.Rule.{first_view}
use Rattle.rtsp_lock.specs.Laws.{TwoSeats}
use Rattle.rtsp_admit.specs.Binder.{Calls}
use Rattle.rtsp_admit.specs.Refused.{LeftNothing, LeftNothingEver}
use Rattle.rtsp_admit.specs.Runs.{State, Admits}

-- it stays so over a step that names such a number
abbrev pub ActsUseDrawn : Type 0
ActsUseDrawn =
    (v u : View) (step : Step) (answer : Result (List Record) Refusal)
    → UsesDrawn v → NamesDrawn v step → Acted v u step answer → UsesDrawn u

-- and over a look
abbrev pub LooksUseDrawn : Type 0
LooksUseDrawn = (v u : View) → UsesDrawn v → Looked v u → UsesDrawn u

-- a number just drawn, under which the seat has no Hold or Add
pub record IsUnused (v : View) (n : ℕ) : Type 0 where
  pub drawn : Has v.drawn n
  pub unused : uses n v.mine ≡ []

-- it stays so over a draw, which gives an unused number
abbrev pub DrawsGiveUnused : Type 0
DrawsGiveUnused = (v u : View) (n : ℕ) → UsesDrawn v → Looked v u → Drew v u n → UsesDrawn u × IsUnused u n

-- an admission under a number drawn keeps it so
abbrev pub KeepsDrawn : Ask → View → View → Type 0
KeepsDrawn ask v u = Has v.drawn ask.admission → UsesDrawn v → UsesDrawn u

-- a refusal under an unused number leaves nothing, where in the journal then seen nobody else has a Hold or Add under it
abbrev pub LeavesNothingUnused : Ask → View → View → Type 0
LeavesNothingUnused ask v u = IsUnused v ask.admission → OnlyOf u.actor (uses ask.admission u.seen) → LeftNothing ask v u

-- so it does with no premise on others, where all seats of the lock use numbers that they drew: nothing is left in the journal, nor in the history
abbrev pub LeavesNothingDrawn : Ask → View → View → Type 0
LeavesNothingDrawn ask v u = v.numbers_drawn ≡ true → IsUnused v ask.admission → LeftNothingEver ask v u

-- the only seat of its lock, in whose journal all entries are its own, each Hold and Add under a number that it drew
pub record OwnsAll (v : View) : Type 0 where
  pub alone : v.alone ≡ true
  pub own : OnlyOf v.actor v.seen
  pub drawn : UsesDrawn v

-- the seat that opens a lock is so, and stays so over looks, draws among them, and over steps that name a number that it drew, or none
pub record OwnsAllLasts : Type 0 where
  pub first : (drawn : Bool) (w : Whole) → OwnsAll (first_view drawn w)
  pub looked : (v u : View) → OwnsAll v → Looked v u → OwnsAll u
  pub acted : (v u : View) (step : Step) (answer : Result (List Record) Refusal) → OwnsAll v → NamesDrawn v step → Acted v u step answer → OwnsAll u

-- and over an admission under a number that it drew
abbrev pub KeepsAll : Ask → View → View → Type 0
KeepsAll ask v u = Has v.drawn ask.admission → OwnsAll v → OwnsAll u

-- of its own admissions nothing is left after a refusal, whatever they are, under an unused number
abbrev pub LeavesNothingAlone : Ask → View → View → Type 0
LeavesNothingAlone ask v u = OwnsAll v → IsUnused v ask.admission → LeftNothing ask v u

-- another seat of the lock whose entries bear this actor, and which uses no numbers but those that it drew
pub record DrawingSeat (w : Whole) (u : View) (by : ℕ) : Type 0 where
  pub view : View
  pub seats : TwoSeats w u view
  pub actor : view.actor ≡ by
  pub drawn : UsesDrawn view

-- each Hold and Add of others under the number, as far as the seat has seen, is of such a seat
abbrev pub OthersUseDrawn : Whole → View → ℕ → Type 0
OthersUseDrawn w u n = (e : Entry) → Contains (uses n u.seen) e → e.actor ≢ u.actor → DrawingSeat w u e.actor

-- then there is none under a number that the seat drew itself
abbrev pub DrawnUsedAlone : Type 0
DrawnUsedAlone = (w : Whole) (u : View) (n : ℕ) → Has u.drawn n → OthersUseDrawn w u n → OnlyOf u.actor (uses n u.seen)

-- where all seats of a lock use numbers that they drew, each Hold and Add in their history under a number is of the seat that drew it
abbrev pub HistoryUsedAlone : Type 0
HistoryUsedAlone =
    (w : Whole) (v u : View) (seats : TwoSeats w v u) (n : ℕ)
    → v.numbers_drawn ≡ true → Has v.drawn n → OnlyOf v.actor (uses n seats.keeps.history)

module _ {B : Type 0} (calls : Calls B) (ask : Ask) where
  -- so it is with each refused admission
  abbrev pub RefusalsLeaveNothingUnused : Type 0
  RefusalsLeaveNothingUnused = (refusal : Refusal) (s t : State B) → Admits calls ask (Err refusal) s t → LeavesNothingUnused ask s.view t.view

  -- so it is where all seats use numbers that they drew
  abbrev pub RefusalsLeaveNothingDrawn : Type 0
  RefusalsLeaveNothingDrawn = (refusal : Refusal) (s t : State B) → Admits calls ask (Err refusal) s t → LeavesNothingDrawn ask s.view t.view

  -- so it is with each admission
  abbrev pub AdmissionsKeepDrawn : Type 0
  AdmissionsKeepDrawn = (result : Result Admitted Refusal) (s t : State B) → Admits calls ask result s t → KeepsDrawn ask s.view t.view

  -- so it is with each admission of an only seat
  abbrev pub AdmissionsKeepAll : Type 0
  AdmissionsKeepAll = (result : Result Admitted Refusal) (s t : State B) → Admits calls ask result s t → KeepsAll ask s.view t.view

  -- and with each that is refused
  abbrev pub RefusalsLeaveNothingAlone : Type 0
  RefusalsLeaveNothingAlone = (refusal : Refusal) (s t : State B) → Admits calls ask (Err refusal) s t → LeavesNothingAlone ask s.view t.view
