use Rattle.std.proofs.Common.{sym, ◌∙◌}
use Rattle.rtsp_pools.proofs.PortLemmas.{port_is}
use Rattle.rtsp_pools.proofs.pair_pool.PairPool.is_free_port.Goals as goal

pub returns-then-has_port : goal.returns-then-has_port
returns-then-has_port c =
    let inside = c.has_port.ensures.0 c.if-has_port.true in
    let is = c.contains.ensures ∙ sym (port_is c.args.self.now c.args.port c.place.result c.place.ensures.1) in
    (λ h. (inside, sym is ∙ h), λ h. is ∙ h.1)
