-- The run of a sweep: accepted steps, each with the unbinding of the ports that it freed. Between any two of them other seats may act.
use Rattle.std.specs.Prelude.{◌≡◌, ℕ, ◌<◌, Bool, true, false, List, [], ◌∷◌, length, slice_get, Option, None, option_map, Ok, Err}
use Rattle.rtsp_record.specs.declared.changes.Record.{Record}
use Rattle.rtsp_record.specs.Records.{session_of}
use Rattle.rtsp_book.specs.declared.refusals.Refusal.TheVariants.{NothingDue}
use Rattle.rtsp_book.specs.declared.steps.Step.{Step}
use Rattle.rtsp_book.specs.declared.steps.Step.TheVariants as step
use Rattle.rtsp_lock.specs.Calls.{Acted}
use Rattle.rtsp_admit.specs.Binder.{Calls, UnboundAll, freed_addresses}
use Rattle.rtsp_admit.specs.Runs.{State}
use Rattle.rtsp_expiry.specs.declared.swept.Swept.{Swept}

-- the steps of sweeps
abbrev pub IsSweeping : Step → Type 0
IsSweeping (step.Expire now) = Unit {0}
IsSweeping (step.Hangup conn) = Unit {0}
IsSweeping other = ⊥

-- the session that the records of a step are about
abbrev pub session_in : List Record → Option ℕ
session_in made = option_map session_of (slice_get made 0)

-- the session of the step that was accepted last, from the records of each accepted step, the last first
abbrev pub last_session : List (List Record) → Option ℕ
last_session [] = None
last_session (made ∷ before) = session_in made

module _ {B : Type 0} (calls : Calls B) (step : Step) where
  -- after an earlier run the step is accepted with these records, and the ports that they free are unbound
  pub record OneMore (earlier : State B → State B → Type 0) (made : List Record) (s t : State B) : Type 0 where
    pub between : State B
    pub before : earlier s between
    pub acted : Acted between.view t.view step (Ok made)
    pub unbound : UnboundAll calls (freed_addresses made) between.binder t.binder

  -- the step is accepted once for each of these lists of records, the last first
  abbrev pub Accepted : List (List Record) → State B → State B → Type 0
  Accepted [] s t = t ≡ s
  Accepted (made ∷ before) s t = OneMore (Accepted before) made s t

  -- the step finds nothing due, before the limit is reached
  pub record FindsNothing (limit ended : ℕ) (s t : State B) : Type 0 where
    pub below : ended < limit
    pub refused : Acted s.view t.view step (Err NothingDue)
    pub binder : t.binder ≡ s.binder

  -- a run ends with more to do where it reached its limit, else where nothing is due
  abbrev pub Stops : ℕ → ℕ → Bool → State B → State B → Type 0
  Stops limit ended true s t = (ended ≡ limit) × (t ≡ s)
  Stops limit ended false s t = FindsNothing limit ended s t

  -- a whole run
  pub record Sweeps (limit : ℕ) (swept : Swept) (s t : State B) : Type 0 where
    pub made : List (List Record)
    pub last : State B
    pub accepted : Accepted made s last
    pub count : swept.ended ≡ length made
    pub told : swept.last ≡ last_session made
    pub stops : Stops limit swept.ended swept.more last t
