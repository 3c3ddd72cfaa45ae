use Rattle.std.proofs.Common.{◌++◌, ◌∙◌, sym, ap, Bor}
use Rattle.std.specs.Prelude.{Result}
use Rattle.std.specs.Result.{result_map_both}
use Rattle.rtsp_grammar.specs.Writing.{response_text}
use Rattle.rtsp_book.specs.declared.receipts.Receipt.{Receipt}
use Rattle.rtsp_book.specs.declared.refusals.Refusal.{Refusal}
use Rattle.rtsp_state.specs.Answer.{step_answer}
use Rattle.rtsp_state.proofs.step_plan.StepPlan.answer.Goals as goal

pub returns-in-Ok-clause-text : goal.returns-in-Ok-clause-text
returns-in-Ok-clause-text c =
    c.write_done.ensures.text
    ∙ ap (λ (m : Result (Bor Receipt) Refusal). c.args.room.now.text ++ response_text (step_answer c.args.self.now (result_map_both (λ r. r.now) (λ e. e) m))) (sym c.in-Ok.is)
