use Rattle.std.proofs.Common.{[], ◌∷◌, ◌++◌, refl}
use Rattle.rtsp_grammar.specs.Writing.{headers_text}
use Rattle.rtsp_state.specs.declared.status.Status.TheVariants as statuses
use Rattle.rtsp_state.specs.declared.words.Word.TheVariants as words
use Rattle.rtsp_state.specs.FixedText.{status_line}
use Rattle.rtsp_state.specs.Lines.{start_lines, type_line, length_line}
use Rattle.rtsp_state.proofs.MessageLemmas.{headers_two, message, in_two}
use Rattle.rtsp_state.proofs.reply.write_parameters.Goals as goal

pub returns-clause-text : goal.returns-clause-text
returns-clause-text c =
    let start = start_lines c.args.start in
    let rest = type_line words.Parameters ∷ length_line c.args.body.now ∷ [] in
    let first = in_two _ (status_line statuses.Success) (headers_text start) _ c.put_done_start.ensures.text in
    let headers = headers_two _ _ _ start rest first c.put_body_headers.ensures.text in
    message statuses.Success (start ++ rest) c.args.body.now _ _ _ _ _ refl headers c.put_end.ensures.text c.put.ensures.text
