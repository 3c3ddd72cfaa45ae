use Rattle.std.proofs.Common.{arith}
use Rattle.rtsp_sessions.proofs.FreeLemmas.{even_chan}
use Rattle.rtsp_sessions.proofs.plain.rules.has_chan.Goals as goal

pub returns : goal.returns
returns c = even_chan c.args.whole.now c.args.conn c.args.first (omega arith)
