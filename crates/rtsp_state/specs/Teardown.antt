-- TEARDOWN (RFC 7826 section 13.7): a presentation; a track.
use Rattle.std.specs.Prelude.{ℕ, ◌||◌, Bool, not, nat_le, length, Result, Ok, Err, if◌then◌else◌}
use Rattle.rtsp_state.specs.declared.status.Status.TheVariants.{BadRequest, SessionNotFound, MethodNotValid}
use Rattle.rtsp_state.specs.declared.fault.Fault.{Fault}
use Rattle.rtsp_state.specs.declared.fault.Fault.TheVariants.{Refused}
use Rattle.rtsp_state.specs.declared.request.Target.{Target}
use Rattle.rtsp_state.specs.declared.request.Target.TheVariants as targets
use Rattle.rtsp_state.specs.declared.plan.Plan.{Plan}
use Rattle.rtsp_state.specs.declared.plan.Plan.TheVariants as plans
use Rattle.rtsp_text.specs.Results.{◌>>=◌}
use Rattle.rtsp_state.specs.Fault.{must}
use Rattle.rtsp_record.specs.Rules.{is_ready}
use Rattle.rtsp_book.specs.declared.steps.Step.TheVariants as steps
use Rattle.rtsp_state.specs.declared.step_plan.Details.TheVariants as details
use Rattle.rtsp_state.specs.Response.{without_session}
use Rattle.rtsp_state.specs.Context.{ContextValue, Living, streams_of, is_other, has_track}

abbrev pub teardown_presentation : ContextValue → Living → ℕ → Result Plan Fault
teardown_presentation context view p = do
  same ← must (not (is_other p (streams_of view.1))) SessionNotFound
  Ok (plans.Step (record { start = context.start; done = without_session context.start; step = steps.End view.0; details = details.Nothing }))

-- the session has one stream at most
abbrev pub has_one : Living → Bool
has_one view = nat_le (length (streams_of view.1)) 1

-- in Ready each stream may be dropped, elsewhere only the last one; with it the session is gone
abbrev pub teardown_track : ContextValue → Living → ℕ → ℕ → Result Plan Fault
teardown_track context view p t = do
  same ← must (not (is_other p (streams_of view.1))) SessionNotFound
  there ← must (has_track t (streams_of view.1)) MethodNotValid
  may ← must (is_ready view.1.phase || has_one view) MethodNotValid
  Ok (plans.Step (record {
    start = context.start;
    done = if has_one view then without_session context.start else context.start;
    step = steps.DropTrack view.0 t;
    details = details.Nothing;
  }))

abbrev pub teardown : ContextValue → Living → Target → Result Plan Fault
teardown context view (targets.Presentation base p) = teardown_presentation context view p
teardown context view (targets.Track base p t) = teardown_track context view p t
teardown context view targets.Server = Err (Refused BadRequest)
teardown context view targets.Star = Err (Refused BadRequest)
