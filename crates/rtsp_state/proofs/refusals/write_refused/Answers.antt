use Rattle.rtsp_state.specs.Lines.{start_lines}
use Rattle.rtsp_state.specs.Response.{status_lines}
use Rattle.rtsp_state.proofs.MessageLemmas.{message_two}
use Rattle.rtsp_state.proofs.refusals.write_refused.Goals as goal

pub returns-clause-text : goal.returns-clause-text
returns-clause-text c = message_two c.args.status (start_lines c.args.start) (status_lines c.args.status) _ _ _ _ _ c.put_status_line.ensures.text c.put_response_start.ensures.text c.put_status_headers.ensures.text c.put_end.ensures.text
