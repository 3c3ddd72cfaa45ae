-- PAUSE (RFC 7826 section 13.6): a track; a presentation.
use Rattle.std.specs.Prelude.{ℕ, ◌==◌, not, length, slice_get, Result, Ok, Err}
use Rattle.rtsp_state.specs.declared.status.Status.TheVariants.{BadRequest, SessionNotFound, MethodNotValid, OnlyAggregateAllowed}
use Rattle.rtsp_state.specs.declared.fault.Fault.{Fault}
use Rattle.rtsp_state.specs.declared.fault.Fault.TheVariants.{Refused}
use Rattle.rtsp_state.specs.declared.request.Target.{Target}
use Rattle.rtsp_state.specs.declared.request.Target.TheVariants as targets
use Rattle.rtsp_state.specs.declared.plan.Plan.{Plan}
use Rattle.rtsp_state.specs.declared.plan.Plan.TheVariants as plans
use Rattle.rtsp_text.specs.Results.{◌>>=◌}
use Rattle.rtsp_state.specs.Fault.{must}
use Rattle.rtsp_record.specs.Moments.{point}
use Rattle.rtsp_book.specs.declared.steps.Step.TheVariants as steps
use Rattle.rtsp_state.specs.declared.step_plan.Details.TheVariants as details
use Rattle.rtsp_state.specs.Context.{ContextValue, Living, streams_of, is_other, timing_of, known}

abbrev pub pause_presentation : ContextValue → Living → ℕ → Result Plan Fault
pause_presentation context view p = do
  same ← must (not (is_other p (streams_of view.1))) SessionNotFound
  some ← must (not (length (streams_of view.1) == 0)) MethodNotValid
  presentation ← known (slice_get context.table.presentations p)
  Ok (plans.Step (record {
    start = context.start;
    done = context.start;
    step = steps.Pause view.0 presentation.unit_ms context.moment;
    details = details.Paused (timing_of presentation) (point view.1.phase presentation.unit_ms context.moment);
  }))

abbrev pub pause : ContextValue → Living → Target → Result Plan Fault
pause context view (targets.Track base p t) = Err (Refused OnlyAggregateAllowed)
pause context view (targets.Presentation base p) = pause_presentation context view p
pause context view targets.Server = Err (Refused BadRequest)
pause context view targets.Star = Err (Refused BadRequest)
