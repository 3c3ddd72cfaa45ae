use Rattle.std.proofs.Common.{ap}
use Rattle.rtsp_state.specs.declared.status.Status.{Status}
use Rattle.rtsp_state.specs.Lines.{allow_line, accept_ranges_line}
use Rattle.rtsp_state.specs.Response.{status_lines}
use Rattle.rtsp_state.proofs.MessageLemmas.{headers_only}
use Rattle.rtsp_state.proofs.refusals.put_status_headers.Goals as goal

pub returns-in-MethodNotValid-clause-text : goal.returns-in-MethodNotValid-clause-text
returns-in-MethodNotValid-clause-text c = headers_only _ _ allow_line _ (ap (λ (s : Status). status_lines s) c.in-MethodNotValid.is) c.put_allow.ensures.text

pub returns-in-HeaderNotValid-clause-text : goal.returns-in-HeaderNotValid-clause-text
returns-in-HeaderNotValid-clause-text c = headers_only _ _ accept_ranges_line _ (ap (λ (s : Status). status_lines s) c.in-HeaderNotValid.is) c.put_accept_ranges.ensures.text
