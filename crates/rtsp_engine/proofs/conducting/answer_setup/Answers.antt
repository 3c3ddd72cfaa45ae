use Rattle.std.proofs.Common.{◌++◌, sym, ap, ◌∙◌}
use Rattle.rtsp_grammar.specs.Writing.{response_text}
use Rattle.rtsp_engine.specs.Conducting.{setup_response}
use Rattle.rtsp_engine.specs.declared.conducting.SetUp.{SetUp}
use Rattle.rtsp_engine.proofs.conducting.answer_setup.Goals as goal

pub returns-in-NoShare : goal.returns-in-NoShare
returns-in-NoShare c = c.refuse.ensures.text ∙ ap (λ (o : SetUp). c.args.room.now.text ++ response_text (setup_response c.args.plan.now c.args.source o)) (sym c.in-NoShare.is)

pub returns-in-NoWord : goal.returns-in-NoWord
returns-in-NoWord c = c.refuse-in-NoWord.ensures.text ∙ ap (λ (o : SetUp). c.args.room.now.text ++ response_text (setup_response c.args.plan.now c.args.source o)) (sym c.in-NoWord.is)

pub returns-in-NoNumber : goal.returns-in-NoNumber
returns-in-NoNumber c = c.refuse-in-NoNumber.ensures.text ∙ ap (λ (o : SetUp). c.args.room.now.text ++ response_text (setup_response c.args.plan.now c.args.source o)) (sym c.in-NoNumber.is)
