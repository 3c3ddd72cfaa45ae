use Rattle.std.proofs.Common.{rules}
use Rattle.rtsp_pacing.proofs.Chains.{turned}
use Rattle.rtsp_pacing.proofs.plays.PacerPlays.turn.Goals as goal

pub returns-clause-turns : goal.returns-clause-turns
returns-clause-turns g c = turned c.args.self.now c.args.key c.in_ok-linked.linked.now c.turn-next.new.self (search rules)
