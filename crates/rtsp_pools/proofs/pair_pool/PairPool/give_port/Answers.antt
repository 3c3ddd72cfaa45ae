use Rattle.std.proofs.Common.{◌≡◌, ◌==◌, ◌+◌, ◌*◌, ◌/◌, ◌&&◌, sym, ap, ◌∙◌, arith}
use Rattle.rtsp_pools.specs.Bits.{has}
use Rattle.rtsp_pools.specs.Pools.{is_free_port}
use Rattle.rtsp_pools.proofs.PortLemmas.{port_paired, port_put, given}
use Rattle.rtsp_pools.proofs.pair_pool.PairPool.give_port.Goals as goal
use Rattle.rtsp_pools.proofs.pair_pool.PairPool.give_port.Goals.{then-contains, else-contains}

pub invariant_of-self-clause-paired : goal.invariant_of-self-clause-paired
invariant_of-self-clause-paired c =
    let i = c.place-place.result in
    let new = c.insert.new.self.words.items in
    let both : c.if-contains.has_both ≡ (has new (2 * (i / 2)) && has new (2 * (i / 2) + 1)) =
    elim c.if-contains.branch [
      | then-contains w ↦ w.has_both-is ∙ w.contains-has_both.ensures ∙ ap (λ t. t && has new (2 * (i / 2) + 1)) (sym w.if-contains.true ∙ c.contains.ensures)
      | else-contains w ↦ w.has_both-is ∙ w.if-contains.false ∙ ap (λ t. t && has new (2 * (i / 2) + 1)) (sym w.if-contains.false ∙ c.contains.ensures)
    ] in
    port_paired c.insert.ensures.put c.put.ensures.put both c.args.self.now.paired

pub returns-clause-come : goal.returns-clause-come
returns-clause-come c q at =
    let pool = c.args.self.now in
    port_put c.insert.ensures.put pool.whole.first_port c.args.port q c.place-place.ensures.1 (omega (arith, at.2)) ∙ given (q == c.args.port) (is_free_port pool q)
