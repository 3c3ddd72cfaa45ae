use Rattle.rtsp_state.specs.Lines.{type_line, length_line}
use Rattle.rtsp_state.proofs.MessageLemmas.{headers_one, headers_first}
use Rattle.rtsp_state.proofs.reply.put_body_headers.Goals as goal

pub returns-clause-text : goal.returns-clause-text
returns-clause-text c = headers_first _ _ _ (type_line c.args.media) _ c.put_type.ensures.text (headers_one _ _ (length_line c.args.body.now) c.put_length.ensures.text)
