use Rattle.rtsp_state.specs.Lines.{start_lines}
use Rattle.rtsp_state.proofs.MessageLemmas.{message_one}
use Rattle.rtsp_state.proofs.refusals.write_plain.Goals as goal

pub returns-clause-text : goal.returns-clause-text
returns-clause-text c = message_one c.args.status (start_lines c.args.start) _ _ _ _ c.put_status_line.ensures.text c.put_response_start.ensures.text c.put_end.ensures.text
