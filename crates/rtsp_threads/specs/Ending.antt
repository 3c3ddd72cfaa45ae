-- A session that whoever runs the server ends, by the step of a TEARDOWN.
use Rattle.std.specs.Prelude.{◌≡◌, ℕ, Bool, true, false, List, Ok, Err}
use Rattle.rtsp_record.specs.declared.changes.Record.{Record}
use Rattle.rtsp_book.specs.declared.refusals.Refusal.{Refusal}
use Rattle.rtsp_book.specs.declared.steps.Step.TheVariants.{End}
use Rattle.rtsp_lock.specs.Calls.{Acted}
use Rattle.rtsp_admit.specs.Binder.{Calls, UnboundAll, freed_addresses}
use Rattle.rtsp_admit.specs.Runs.{State}

module _ {B : Type 0} (calls : Calls B) (session : ℕ) (s t : State B) where
  -- it was ended, and what its records free was unbound
  pub record EndsIt : Type 0 where
    pub made : List Record
    pub acted : Acted s.view t.view (End session) (Ok made)
    pub unbound : UnboundAll calls (freed_addresses made) s.binder t.binder

  -- its step was refused, and nothing was unbound
  pub record EndsNothing : Type 0 where
    pub refusal : Refusal
    pub acted : Acted s.view t.view (End session) (Err refusal)
    pub binder : t.binder ≡ s.binder

  -- whether it was ended
  abbrev pub EndsSession : Bool → Type 0
  EndsSession true = EndsIt
  EndsSession false = EndsNothing
