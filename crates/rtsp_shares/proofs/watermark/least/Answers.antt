use Rattle.std.proofs.Common.{arith}
use Rattle.rtsp_shares.proofs.Marks.{at_end}
use Rattle.rtsp_shares.proofs.watermark.least.Goals as goal

pub returns : goal.returns
returns c = at_end c.args.oldest c.args.now c.loop-moment.least c.loop-moment.moment-index c.args.moments.now (omega (arith, c.loop-moment-test.false)) c.loop-moment.invariant
