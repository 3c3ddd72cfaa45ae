use Rattle.std.proofs.Common.{◌/◌, arith}
use Rattle.rtsp_state.proofs.setup_plan.channel_of.Goals as goal

pub returns-in-Some-clause-wish : goal.returns-in-Some-clause-wish
returns-in-Some-clause-wish c = (c.rtp.result / 2, omega (arith, c.rtp.ensures.even), omega (arith, c.rtp.ensures.few))
