use Rattle.std.proofs.Common.{◌==◌, ◌+◌, ◌||◌, sym, ◌∙◌, arith}
use Rattle.rtsp_pools.specs.Pools.{is_free_port}
use Rattle.rtsp_pools.proofs.PortLemmas.{pair_is, pair_paired, pair_put, taken}
use Rattle.rtsp_pools.proofs.pair_pool.PairPool.take.Goals as goal

pub remove-requires-clause-there : goal.remove-requires-clause-there
remove-requires-clause-there c = sym (pair_is c.args.self.now c.args.first c.index-index.result c.index-index.ensures.1) ∙ c.requires.free

pub invariant_of-self-clause-paired : goal.invariant_of-self-clause-paired
invariant_of-self-clause-paired c = pair_paired c.index-index.result c.remove-2.ensures.put c.remove-3.ensures.put c.remove.ensures.put c.args.self.now.paired

pub returns-clause-gone : goal.returns-clause-gone
returns-clause-gone c q at =
    let pool = c.args.self.now in
    let p = c.args.first in
    pair_put c.index-index.result c.remove-2.ensures.put c.remove-3.ensures.put pool.whole.first_port p q c.index-index.ensures.1 (omega (arith, at.2)) ∙ taken (q == p || q == p + 1) (is_free_port pool q)
