use Rattle.std.proofs.Common.{◌++◌, ◌∙◌, ap}
use Rattle.std.specs.Prelude.{Option}
use Rattle.rtsp_grammar.specs.Writing.{headers_text}
use Rattle.rtsp_record.specs.declared.phases.Phase.{Phase}
use Rattle.rtsp_state.specs.declared.status.Status.TheVariants as statuses
use Rattle.rtsp_state.specs.Lines.{start_lines}
use Rattle.rtsp_state.specs.Answer.{moved, shown_lines}
use Rattle.rtsp_state.proofs.MessageLemmas.{message_two}
use Rattle.rtsp_state.proofs.step_plan.write_done.Goals as goal

pub returns-clause-text : goal.returns-clause-text
returns-clause-text c =
    let shown = c.put_shown.ensures.text ∙ ap (λ (p : Option Phase). c.put_response_start.new.room.text ++ headers_text (shown_lines c.args.plan.now.details p)) c.moved.ensures in
    message_two statuses.Success (start_lines c.args.plan.now.done) (shown_lines c.args.plan.now.details (moved c.args.receipt.now)) _ _ _ _ _ c.put_status_line.ensures.text c.put_response_start.ensures.text shown c.put_end.ensures.text
