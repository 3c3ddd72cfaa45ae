use Rattle.std.proofs.Common.{◌++◌, ◌∙◌, ap}
use Rattle.rtsp_grammar.specs.Writing.{response_text}
use Rattle.rtsp_grammar.specs.declared.message.Response.{Response}
use Rattle.rtsp_state.proofs.refusals.write_refused_step.Goals as goal

pub returns-clause-text : goal.returns-clause-text
returns-clause-text c = c.write_refused.ensures.text ∙ ap (λ (r : Response). c.args.room.now.text ++ response_text r) c.refusal_of-status.ensures
