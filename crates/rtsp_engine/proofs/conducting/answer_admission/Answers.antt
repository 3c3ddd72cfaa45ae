use Rattle.std.proofs.Common.{◌++◌, Result, sym, ap, ◌∙◌}
use Rattle.rtsp_grammar.specs.Writing.{response_text}
use Rattle.rtsp_book.specs.declared.asks.Admitted.{Admitted}
use Rattle.rtsp_book.specs.declared.refusals.Refusal.{Refusal}
use Rattle.rtsp_state.specs.Answer.{setup_answer}
use Rattle.rtsp_engine.proofs.conducting.answer_admission.Goals as goal

pub returns-in-Ok : goal.returns-in-Ok
returns-in-Ok c = c.answer.ensures.text ∙ ap (λ (r : Result Admitted Refusal). c.args.room.now.text ++ response_text (setup_answer c.args.plan.now c.args.source c.args.key r)) (sym c.in-Ok.is)
