use Rattle.std.proofs.Common.{refl, arith}
use Rattle.rtsp_index.proofs.pools.Pools.free.Goals as goal

pub returns-in-Pair-clause-given : goal.returns-in-Pair-clause-given
returns-in-Pair-clause-given c = rw c.in-Pair.is (record { whole = c.give.ensures.whole; ports = c.give.ensures.come; chans = λ d l. refl; rate = omega arith })
