use Rattle.std.proofs.Common.{◌≡◌, get_or, arith}
use Rattle.rtsp_state.proofs.PortLemmas.{port_behind}
use Rattle.rtsp_state.proofs.plain_uri.after_port.Goals as goal

pub returns-then-is_port : goal.returns-then-is_port
returns-then-is_port c =
    let text = c.args.text.now in
    let halves = c.split_at.ensures in
    let first : get_or text 0 0 ≡ 58 = omega arith in
    port_behind text c.split_at.result.0.now c.split_at.result.1.now c.in_ok-slash.slash (omega arith) first halves.front halves.back (c.is_port.ensures c.if-is_port.true)
