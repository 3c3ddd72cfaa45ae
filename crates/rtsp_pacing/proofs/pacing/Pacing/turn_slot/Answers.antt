use Rattle.std.proofs.Common.{Some, ap, subst, ◌∙◌}
use Rattle.slab.specs.Slab.{get}
use Rattle.rtsp_pacing.specs.declared.pacing.Pacing.{Pacing}
use Rattle.rtsp_pacing.proofs.Chains.{Walked, walk_on}
use Rattle.rtsp_pacing.proofs.pacing.Pacing.turn_slot.Goals as goal
use Rattle.rtsp_pacing.proofs.pacing.Pacing.turn_slot.Goals.{in-At, in-Never}

pub loop-turns-preserved : goal.loop-turns-preserved
loop-turns-preserved g c = λ keys chain.
    let walked : Walked c.args.self.now.plays c.args.last c.loop-turns.self.plays (Some c.in-Some.key) c.loop-turns.turns keys = subst (λ next. Walked c.args.self.now.plays c.args.last c.loop-turns.self.plays next c.loop-turns.turns keys) c.in-Some.is (c.loop-turns.invariant keys chain) in
    elim c.match-then.branch [
      | in-At w ↦ walk_on c.args.self.now.plays c.loop-turns.self.plays c.args.last c.in-Some.key c.loop-turns.turns c.in-Some-turned.before keys c.turn-turned.new.self c.match-then.self.plays c.in-Some-turned.ensures.turns (λ other apart. ap (λ (x : Pacing g.row.R.Denot g.row.N.Denot). get x.plays.plays other) w.self-is ∙ w.link.ensures.others other apart) walked
      | in-Never w ↦ walk_on c.args.self.now.plays c.loop-turns.self.plays c.args.last c.in-Some.key c.loop-turns.turns c.in-Some-turned.before keys c.turn-turned.new.self c.match-then.self.plays c.in-Some-turned.ensures.turns (λ other apart. ap (λ (x : Pacing g.row.R.Denot g.row.N.Denot). get x.plays.plays other) w.self-is ∙ w.remove.ensures.others other apart) walked
    ]
