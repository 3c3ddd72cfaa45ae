use Rattle.std.proofs.Common.{rules}
use Rattle.rtsp_pacing.proofs.Leaving.{leaves}
use Rattle.rtsp_pacing.proofs.plays.PacerPlays.leave.Goals as goal

pub returns-in-Some-get_mut-clause-left : goal.returns-in-Some-get_mut-clause-left
returns-in-Some-get_mut-clause-left c =
    leaves c.args.self.now c.args.session c.in-Some.key.now c.args.next c.in-Some-get_mut.latest.now c.leave.new.self (search rules) (search rules) c.leave.ensures.left
