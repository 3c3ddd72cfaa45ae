use Rattle.std.proofs.Common.{◌==◌, refl, ◌∙◌, arith}
use Rattle.rtsp_pools.specs.Pools.{is_free_port}
use Rattle.rtsp_pools.proofs.PortLemmas.{port_paired, not_both, port_put, taken}
use Rattle.rtsp_pools.proofs.pair_pool.PairPool.take_port.Goals as goal

pub invariant_of-self-clause-paired : goal.invariant_of-self-clause-paired
invariant_of-self-clause-paired c = port_paired c.remove.ensures.put c.put.ensures.put (not_both c.remove.ensures.put refl) c.args.self.now.paired

pub returns-clause-gone : goal.returns-clause-gone
returns-clause-gone c q at =
    let pool = c.args.self.now in
    port_put c.remove.ensures.put pool.whole.first_port c.args.port q c.place-place.ensures.1 (omega (arith, at.2)) ∙ taken (q == c.args.port) (is_free_port pool q)
