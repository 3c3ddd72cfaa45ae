use Rattle.std.proofs.Common.{List, ℕ, ◌++◌, ap, ◌∙◌, decimal}
use Rattle.rtsp_state.specs.declared.status.Status.TheVariants as statuses
use Rattle.rtsp_state.specs.declared.words.Field.TheVariants as fields
use Rattle.rtsp_state.specs.FixedText.{status_line}
use Rattle.rtsp_state.specs.Lines.{session_lines}
use Rattle.rtsp_state.proofs.MessageLemmas.{done_start}
use Rattle.rtsp_state.proofs.headers.put_done_start.Goals as goal

pub returns-clause-text : goal.returns-clause-text
returns-clause-text c =
    done_start (status_line statuses.Success) fields.CSeq (decimal c.args.start.cseq) c.args.room.now.text _ _ _ _ (session_lines c.args.start.session)
    (c.put.ensures.text ∙ ap (λ (l : List ℕ). c.args.room.now.text ++ l) c.done_start.ensures.text) c.put_decimal.ensures.text c.put_end.ensures.text c.put_shown_session.ensures.text
