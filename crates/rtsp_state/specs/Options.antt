-- OPTIONS (RFC 7826 section 13.1).
use Rattle.std.specs.Prelude.{[], ◌∷◌, Result, Ok}
use Rattle.rtsp_state.specs.declared.fault.Fault.{Fault}
use Rattle.rtsp_state.specs.declared.plan.Plan.{Plan}
use Rattle.rtsp_state.specs.Lines.{public_line}
use Rattle.rtsp_state.specs.Context.{ContextValue, plainly}

abbrev pub options : ContextValue → Result Plan Fault
options context = Ok (plainly context (public_line ∷ []) [])
