-- SET_PARAMETER (RFC 7826 section 13.9): no body; a body.
use Rattle.std.specs.Prelude.{◌==◌, [], length, Result, Ok}
use Rattle.rtsp_state.specs.declared.status.Status.TheVariants.{ParameterNotUnderstood}
use Rattle.rtsp_state.specs.declared.fault.Fault.{Fault}
use Rattle.rtsp_state.specs.declared.plan.Plan.{Plan}
use Rattle.rtsp_text.specs.Results.{◌>>=◌}
use Rattle.rtsp_state.specs.Fault.{must}
use Rattle.rtsp_state.specs.Context.{ContextValue, plainly}

-- no parameter can be set
abbrev pub set_parameter : ContextValue → Result Plan Fault
set_parameter context = do
  empty ← must (length context.body == 0) ParameterNotUnderstood
  Ok (plainly context [] [])
