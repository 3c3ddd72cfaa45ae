use Rattle.std.proofs.Common.{sym, ◌∙◌}
use Rattle.rtsp_pools.proofs.PortLemmas.{pair_is}
use Rattle.rtsp_pools.proofs.pair_pool.PairPool.is_free.Goals as goal

pub returns-then-has_pair : goal.returns-then-has_pair
returns-then-has_pair c =
    let inside = c.has_pair.ensures.0 c.if-has_pair.true in
    let is = c.contains.ensures ∙ sym (pair_is c.args.self.now c.args.first c.index.result c.index.ensures.1) in
    (λ h. (inside, sym is ∙ h), λ h. is ∙ h.1)
