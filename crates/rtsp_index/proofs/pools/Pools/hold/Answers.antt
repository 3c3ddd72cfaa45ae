use Rattle.std.proofs.Common.{refl, arith}
use Rattle.rtsp_index.proofs.pools.Pools.hold.Goals as goal

pub returns-in-Pair-clause-taken : goal.returns-in-Pair-clause-taken
returns-in-Pair-clause-taken c = rw c.in-Pair.is (record { whole = c.take.ensures.whole; ports = c.take.ensures.gone; chans = λ d l. refl; rate = omega arith })
