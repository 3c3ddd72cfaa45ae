use Rattle.rtsp_pools.proofs.ChanLemmas.{none_is_free, lowest_is_free}
use Rattle.rtsp_pools.proofs.chan_pool.ChanPool.least_free.Goals as goal

pub returns-then-free-eq0 : goal.returns-then-free-eq0
returns-then-free-eq0 c = none_is_free c.args.self.now c.args.conn c.bits-free.result c.bits-free.ensures c.bits-free.type_inv c.if-free-eq0.true

pub returns-else-free-eq0 : goal.returns-else-free-eq0
returns-else-free-eq0 c = lowest_is_free c.args.self.now c.args.conn c.bits-free.result c.bits-free.ensures c.bits-free.type_inv c.if-free-eq0.false
