use Rattle.std.specs.Io.KnownBytes.{Keeps}
use Rattle.rtsp_sockets.proofs.try_write.AnyTryWrite.try_write.Given as goal

-- nothing was taken so far
abbrev pub invariant-loop : goal.invariant-loop
invariant-loop g l = Keeps (g.W.Write.contents l.fn.self) (g.W.Write.contents l.self)
