use Rattle.std.proofs.Common.{◌≤◌, drop, length, arith}
use Rattle.rtsp_sockets.proofs.Sources.{read_whole, read_lost, loses_anew, loses_left}
use Rattle.rtsp_sockets.proofs.words.SourceWords.refill.Goals as goal

pub returns-in-Ok-clause-lost : goal.returns-in-Ok-clause-lost
returns-in-Ok-clause-lost g c =
    let full : length c.read.new.buf ≤ c.in-Ok.n = omega arith in
    loses_anew _ _ (drop c.args.self.now.used c.args.self.now.pool) c.read.new.buf (read_whole _ _ c.read.new.buf c.in-Ok.n full c.in-Ok.ensures.bytes.0)

pub returns-in_default-clause-lost : goal.returns-in_default-clause-lost
returns-in_default-clause-lost g c =
    let size : length c.read.new.buf ≤ 32 = omega arith in
    loses_left _ _ (drop c.args.self.now.used c.args.self.now.pool) c.read.new.buf 32 size (read_lost _ _ c.read.result c.read.new.buf c.read.ensures.bytes)
