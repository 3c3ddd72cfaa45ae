use Rattle.std.proofs.Common.{[], ◌∷◌, refl}
use Rattle.rtsp_grammar.specs.Writing.{header_text, headers_text}
use Rattle.rtsp_state.specs.declared.status.Status.TheVariants as statuses
use Rattle.rtsp_state.specs.FixedText.{status_line}
use Rattle.rtsp_state.specs.Lines.{start_lines, public_line}
use Rattle.rtsp_state.proofs.MessageLemmas.{headers_one, message_two, in_two}
use Rattle.rtsp_state.proofs.reply.write_options.Goals as goal

pub returns-clause-text : goal.returns-clause-text
returns-clause-text c =
    message_two statuses.Success (start_lines c.args.start) (public_line ∷ []) _ _ _ _ _ refl
    (in_two _ (status_line statuses.Success) (headers_text (start_lines c.args.start)) _ c.put_done_start.ensures.text)
    (headers_one _ _ public_line refl)
    (in_two _ (header_text public_line) (13 ∷ 10 ∷ []) _ c.put_public_end.ensures.text)
