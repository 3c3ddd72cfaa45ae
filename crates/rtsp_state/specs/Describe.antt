-- DESCRIBE (RFC 7826 section 13.2): a presentation; a track.
use Rattle.std.specs.Prelude.{ℕ, List, [], ◌∷◌, slice_get, Result, Ok, Err}
use Rattle.rtsp_state.specs.declared.status.Status.TheVariants.{BadRequest, NotFound}
use Rattle.rtsp_state.specs.declared.fault.Fault.{Fault}
use Rattle.rtsp_state.specs.declared.fault.Fault.TheVariants.{Refused}
use Rattle.rtsp_state.specs.declared.request.Target.{Target}
use Rattle.rtsp_state.specs.declared.request.Target.TheVariants as targets
use Rattle.rtsp_state.specs.declared.plan.Plan.{Plan}
use Rattle.rtsp_text.specs.Results.{◌>>=◌}
use Rattle.rtsp_content.specs.Sdp.{sdp_of}
use Rattle.rtsp_state.specs.declared.words.Word.TheVariants as words
use Rattle.rtsp_state.specs.Lines.{base_line, type_line, length_line}
use Rattle.rtsp_state.specs.Context.{ContextValue, known, plainly}

abbrev pub describe_presentation : ContextValue → List ℕ → ℕ → Result Plan Fault
describe_presentation context base p = do
  presentation ← known (slice_get context.table.presentations p)
  Ok (plainly context (base_line base ∷ type_line words.Sdp ∷ length_line (sdp_of presentation) ∷ []) (sdp_of presentation))

abbrev pub describe : ContextValue → Target → Result Plan Fault
describe context (targets.Presentation base p) = describe_presentation context base p
describe context (targets.Track base p t) = Err (Refused NotFound)
describe context targets.Server = Err (Refused BadRequest)
describe context targets.Star = Err (Refused BadRequest)
