use Rattle.std.proofs.Common.{rules}
use Rattle.rtsp_pacing.proofs.Chains.{links}
use Rattle.rtsp_pacing.proofs.plays.PacerPlays.link.Goals as goal

pub returns-in-Some-clause-linked : goal.returns-in-Some-clause-linked
returns-in-Some-clause-linked c = λ there. links c.args.self.now c.args.key c.in-Some.linked.now _ (search rules)
