use Rattle.std.proofs.Common.{[], ◌∷◌, ◌++◌}
use Rattle.rtsp_state.specs.declared.status.Status.TheVariants as statuses
use Rattle.rtsp_state.specs.declared.words.Word.TheVariants as words
use Rattle.rtsp_state.specs.Lines.{start_lines, base_line, type_line, length_line}
use Rattle.rtsp_state.proofs.MessageLemmas.{headers_first, headers_two, message}
use Rattle.rtsp_state.proofs.reply.write_described.Goals as goal

pub returns-clause-text : goal.returns-clause-text
returns-clause-text c =
    let start = start_lines c.args.start in
    let rest = base_line c.args.base.now ∷ type_line words.Sdp ∷ length_line c.args.sdp.now ∷ [] in
    let others = headers_first _ _ _ (base_line c.args.base.now) _ c.put_base.ensures.text c.put_body_headers.ensures.text in
    let headers = headers_two _ _ _ start rest c.put_response_start.ensures.text others in
    message statuses.Success (start ++ rest) c.args.sdp.now _ _ _ _ _ c.put_status_line.ensures.text headers c.put_end.ensures.text c.put.ensures.text
