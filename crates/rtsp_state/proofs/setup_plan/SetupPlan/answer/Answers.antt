use Rattle.std.proofs.Common.{◌++◌, ◌∙◌, sym, ap, Bor}
use Rattle.std.specs.Prelude.{Result}
use Rattle.std.specs.Result.{result_map_both}
use Rattle.rtsp_grammar.specs.Writing.{response_text}
use Rattle.rtsp_book.specs.declared.asks.Admitted.{Admitted}
use Rattle.rtsp_book.specs.declared.refusals.Refusal.{Refusal}
use Rattle.rtsp_state.specs.declared.setup_plan.SessionKey.{SessionKey}
use Rattle.rtsp_state.specs.Answer.{admitted, setup_answer}
use Rattle.rtsp_state.proofs.setup_plan.SetupPlan.answer.Goals as goal

pub returns-in-Ok-clause-text : goal.returns-in-Ok-clause-text
returns-in-Ok-clause-text c =
    c.write_admitted.ensures.text
    ∙ ap (λ (key : SessionKey). c.args.room.now.text ++ response_text (admitted c.args.self.now c.args.source key.id c.in-Ok.made.now)) c.key.ensures
    ∙ ap (λ (m : Result (Bor Admitted) Refusal). c.args.room.now.text ++ response_text (setup_answer c.args.self.now c.args.source c.args.drawn (result_map_both (λ a. a.now) (λ e. e) m))) (sym c.in-Ok.is)
