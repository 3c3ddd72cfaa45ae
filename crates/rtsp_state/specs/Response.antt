-- How a request is answered where no step is made.
use Rattle.std.specs.Prelude.{ℕ, List, [], ◌∷◌, ◌++◌, None}
use Rattle.rtsp_grammar.specs.Header.{HeaderText}
use Rattle.rtsp_grammar.specs.declared.message.Response.{Response}
use Rattle.rtsp_grammar.specs.declared.version.Version.TheVariants.{Rtsp2}
use Rattle.rtsp_book.specs.declared.refusals.Refusal.{Refusal}
use Rattle.rtsp_book.specs.declared.refusals.Refusal.TheVariants as refusals
use Rattle.rtsp_state.specs.declared.status.Status.{Status}
use Rattle.rtsp_state.specs.declared.status.Status.TheVariants as statuses
use Rattle.rtsp_state.specs.declared.fault.Fault.{Fault}
use Rattle.rtsp_state.specs.declared.fault.Fault.TheVariants as faults
use Rattle.rtsp_state.specs.declared.response_start.ResponseStart.{ResponseStart}
use Rattle.rtsp_state.specs.Lines.{start_lines, allow_line, accept_ranges_line, unsupported_line}
use Rattle.rtsp_state.specs.Status.{code, reason, status_of}

-- a response of RTSP 2.0
abbrev pub response : Status → List HeaderText → List ℕ → Response
response status headers body = record { version = Rtsp2; status = code status; reason = reason status; headers = headers; body = body }

-- what a refusal by a status shows beside the front: which methods may be sent, or which units a range may have
abbrev pub status_lines : Status → List HeaderText
status_lines statuses.MethodNotValid = allow_line ∷ []
status_lines statuses.HeaderNotValid = accept_ranges_line ∷ []
status_lines other = []

-- the response to a request that isn't done
abbrev pub refused : ResponseStart → Fault → Response
refused start (faults.Refused status) = response status (start_lines start ++ status_lines status) []
refused start (faults.Unsupported tags) = response statuses.OptionNotSupported (start_lines start ++ unsupported_line tags ∷ []) []
refused start faults.OutOfMemory = response statuses.ServerError (start_lines start) []

-- a session that is gone isn't shown
abbrev pub without_session : ResponseStart → ResponseStart
without_session start = record { cseq = start.cseq; session = None }

-- the response after a refused step
abbrev pub refusal_response : ResponseStart → Refusal → Response
refusal_response start refusals.NoSession = refused (without_session start) (faults.Refused statuses.SessionNotFound)
refusal_response start refusal = refused start (faults.Refused (status_of refusal))
