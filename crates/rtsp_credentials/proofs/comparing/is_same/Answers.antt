use Rattle.std.proofs.Common.{◌≡◌, length, arith}
use Rattle.rtsp_credentials.proofs.Same.{compared}
use Rattle.rtsp_credentials.proofs.comparing.is_same.Goals as goal

pub returns : goal.returns
returns c =
    let end : c.loop-i.i ≡ length c.args.text.now = omega arith in
    compared c.args.text.now c.args.given.now c.loop-i.same c.loop-i.i end c.if-text-given.false c.loop-i.invariant
