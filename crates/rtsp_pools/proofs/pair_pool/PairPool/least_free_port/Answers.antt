use Rattle.std.proofs.Common.{◌==◌, ◌+◌, ap, ◌∙◌, arith}
use Rattle.std.specs.Prelude.{Some}
use Rattle.rtsp_pools.specs.Pools.{is_free_port}
use Rattle.rtsp_pools.proofs.PortLemmas.{port_at}
use Rattle.rtsp_pools.proofs.LeastLemmas.{port_found, port_missing}
use Rattle.rtsp_pools.proofs.pair_pool.PairPool.least_free_port.Goals as goal

pub returns-in_err-place : goal.returns-in_err-place
returns-in_err-place c =
    let pool = c.args.self.now in
    c.from_residual.ensures
    ∙ port_missing (is_free_port pool) pool.whole c.args.from c.saturating_sub-start.result (omega (arith, c.saturating_sub-start.ensures, c.from-first.ensures))
    (λ j late lt. port_at pool j ∙ ap (λ n. n == 1) (c.in_err-place.ensures.none j late))

pub returns : goal.returns
returns c =
    let pool = c.args.self.now in
    let k = c.in_ok-place.place in
    let found = c.in_ok-place.ensures.found in
    ap (λ n. Some (n + k)) c.from-first.ensures
    ∙ port_found (is_free_port pool) pool.whole c.args.from c.saturating_sub-start.result (omega (arith, c.saturating_sub-start.ensures, c.from-first.ensures))
    k (omega (arith, found.0, pool.each)) found.1 (port_at pool k ∙ ap (λ n. n == 1) found.2)
    (λ j late below. port_at pool j ∙ ap (λ n. n == 1) (c.in_ok-place.ensures.least j late below))
