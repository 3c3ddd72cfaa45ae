use Rattle.std.proofs.Common.{◌==◌, ◌+◌, ◌*◌, ◌||◌, sym, ◌∙◌, arith}
use Rattle.rtsp_pools.specs.Pools.{is_free_port}
use Rattle.rtsp_pools.proofs.PortLemmas.{port_is, pair_paired, pair_put, given}
use Rattle.rtsp_pools.proofs.pair_pool.PairPool.give.Goals as goal

pub insert-requires-3-clause-new : goal.insert-requires-3-clause-new
insert-requires-3-clause-new c =
    let k = c.index-index.result in
    c.insert-2.ensures.put.others (2 * k + 1) (λ e. absurd (omega (arith, e)))
    ∙ sym (port_is c.args.self.now (c.args.first + 1) (2 * k + 1) (omega (arith, c.index-index.ensures.1))) ∙ c.requires.next_held

pub invariant_of-self-clause-paired : goal.invariant_of-self-clause-paired
invariant_of-self-clause-paired c = pair_paired c.index-index.result c.insert-2.ensures.put c.insert-3.ensures.put c.insert.ensures.put c.args.self.now.paired

pub returns-clause-come : goal.returns-clause-come
returns-clause-come c q at =
    let pool = c.args.self.now in
    let p = c.args.first in
    pair_put c.index-index.result c.insert-2.ensures.put c.insert-3.ensures.put pool.whole.first_port p q c.index-index.ensures.1 (omega (arith, at.2)) ∙ given (q == p || q == p + 1) (is_free_port pool q)
