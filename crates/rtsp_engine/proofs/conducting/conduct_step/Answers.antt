use Rattle.std.proofs.Common.{◌++◌, List, ℕ, Ok, Option, refl, ap, subst, ◌∙◌}
use Rattle.rtsp_grammar.specs.Writing.{response_text}
use Rattle.rtsp_record.specs.declared.phases.Phase.{Phase}
use Rattle.rtsp_state.specs.Answer.{step_answer}
use Rattle.rtsp_traits.specs.Devices.{Settled}
use Rattle.rtsp_engine.specs.Conducting.{played}
use Rattle.rtsp_lock.proofs.Naming.{names_none}
use Rattle.rtsp_engine.proofs.conducting.conduct_step.Goals as goal

pub act_step-requires-clause-names : goal.act_step-requires-clause-names
act_step-requires-clause-names g c = names_none g.N.Numbers.drawn _ c.args.plan.now.step c.requires.names

pub returns-in-Ok-clause-ok : goal.returns-in-Ok-clause-ok
returns-in-Ok-clause-ok g c =
    let made = Ok c.act_step.new.made in
    record {
      response = step_answer c.args.plan.now made;
      is = record {
        between = c.note.new.plays;
        noted = c.in_ok-note.ensures.ok;
        made = made;
        acted = c.in-Ok.ensures.acted;
        unbound = c.in-Ok.ensures.unbound;
        settled = subst (λ (begun : Option Phase). Settled g.P.Plays.calls (played c.args.plan.now.step) begun c.note.new.plays c.settle.new.plays) c.moved.ensures c.settle.ensures;
        answer = refl;
        words = refl;
        clock = refl;
        shares = refl;
      };
      text = c.answer.ensures.text ∙ ap (λ (t : List ℕ). t ++ response_text (step_answer c.args.plan.now made)) c.in_ok-make_room.ensures.text;
    }
