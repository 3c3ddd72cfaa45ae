-- A bind that failed shows in an admission only where it was counted.
use Rattle.std.specs.Prelude.{◌≡◌, ◌-◌, ◌<◌, ◌^◌, List, [], ◌∷◌, ◌++◌, Result, Ok, Err}
use Rattle.rtsp_record.specs.declared.changes.Record.{Record}
use Rattle.rtsp_record.specs.declared.holdings.Thing.{Thing}
use Rattle.rtsp_book.specs.declared.asks.Admitted.{Admitted}
use Rattle.rtsp_book.specs.declared.asks.Ask.{Ask}
use Rattle.rtsp_book.specs.declared.refusals.Refusal.{Refusal}
use Rattle.rtsp_book.specs.declared.steps.Step.{Step}
use Rattle.rtsp_book.specs.declared.steps.Step.TheVariants.{Unwind}
use Rattle.rtsp_lock.specs.declared.view.View.{View}
use Rattle.rtsp_lock.specs.Calls.{Acted}
use Rattle.rtsp_admit.specs.declared.failure.Failure.{Failure}
use Rattle.rtsp_admit.specs.Steps.{opening_steps, rate_step, address_step, commit_step, first_steps, chain_left, refusal_of}
use Rattle.rtsp_admit.specs.Binder.{Calls}
use Rattle.rtsp_admit.specs.Runs.{State, Held, Admits}

-- the seat took these steps, one after another and no other, and each was accepted
abbrev pub Accepts : List Step → View → View → Type 0
Accepts [] v u = u ≡ v
Accepts (step ∷ steps) v u = (w : View) × ((made : List Record) × Acted v w step (Ok made)) × Accepts steps w u

-- the steps before the address
abbrev pub earlier_steps : Ask → List Step
earlier_steps ask = opening_steps ask ask.opening ++ rate_step ask ∷ []

-- the address is what its step gave as it was first asked; for ports, the least of all free ones
pub record IsFirstOffer (ask : Ask) (x : Thing) (v u : View) : Type 0 where
  pub before : View
  pub after : View
  pub earlier : Accepts (earlier_steps ask) v before
  pub held : Held ask (address_step ask ask.wanted) x before after
  pub commit : Accepts (commit_step ask ∷ []) after u

-- the steps that come first were accepted as they were first asked, and so the next was refused
pub record BreaksFirst (ask : Ask) (refusal : Refusal) (v u : View) : Type 0 where
  pub earlier : List Step
  pub step : Step
  pub later : List Step
  pub asked : first_steps ask ≡ earlier ++ step ∷ later
  pub before : View
  pub accepted : Accepts earlier v before
  pub refused : Acted before u step (Err refusal)

-- a step was refused as it was first asked, and then those before it were unwound
pub record IsFirstRefusal (ask : Ask) (refusal : Refusal) (v u : View) : Type 0 where
  pub broken : View
  pub breaks : BreaksFirst ask refusal v broken
  pub cause : Failure
  pub of_cause : refusal ≡ refusal_of cause
  pub answer : Result (List Record) Refusal
  pub unwinds : Acted broken u (Unwind (chain_left ask cause)) answer

-- no bind that failed had part in the calls of the seat, nor in the answer
abbrev pub HasNoFault : Ask → Result Admitted Refusal → View → View → Type 0
HasNoFault ask (Ok granted) v u = IsFirstOffer ask granted.address v u
HasNoFault ask (Err refusal) v u = IsFirstRefusal ask refusal v u

module _ {B : Type 0} (calls : Calls B) (ask : Ask) where
  -- so it is where no failure was counted, below the greatest count
  abbrev pub CountsFaults : Result Admitted Refusal → State B → State B → Type 0
  CountsFaults result s t = calls.failures s.binder < 2 ^ 64 - 1 → calls.failures t.binder ≡ calls.failures s.binder → HasNoFault ask result s.view t.view

  -- each admission counts its faults
  abbrev pub AdmissionsCountFaults : Type 0
  AdmissionsCountFaults = (result : Result Admitted Refusal) (s t : State B) → Admits calls ask result s t → CountsFaults result s t
