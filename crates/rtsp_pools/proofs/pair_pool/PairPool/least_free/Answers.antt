use Rattle.std.proofs.Common.{◌==◌, ◌+◌, ◌*◌, ap, ◌∙◌, arith}
use Rattle.std.specs.Prelude.{Some}
use Rattle.rtsp_pools.specs.Pools.{is_free_pair}
use Rattle.rtsp_pools.proofs.PortLemmas.{pair_at}
use Rattle.rtsp_pools.proofs.LeastLemmas.{pair_found, pair_missing}
use Rattle.rtsp_pools.proofs.pair_pool.PairPool.least_free.Goals as goal

pub returns-in_err-index : goal.returns-in_err-index
returns-in_err-index c =
    let pool = c.args.self.now in
    c.from_residual.ensures
    ∙ pair_missing (is_free_pair pool) pool.whole c.args.from c.div_ceil-start.result (omega (arith, c.div_ceil-start.ensures, c.saturating_sub.ensures, c.from-first.ensures))
    (λ j late lt. pair_at pool j ∙ ap (λ n. n == 1) (c.in_err-index.ensures.none j late))

pub returns : goal.returns
returns c =
    let pool = c.args.self.now in
    let k = c.in_ok-index.index in
    let found = c.in_ok-index.ensures.found in
    ap (λ n. Some (n + 2 * k)) c.from-first.ensures
    ∙ pair_found (is_free_pair pool) pool.whole c.args.from c.div_ceil-start.result (omega (arith, c.div_ceil-start.ensures, c.saturating_sub.ensures, c.from-first.ensures))
    k (omega (arith, found.0, pool.sized)) found.1 (pair_at pool k ∙ ap (λ n. n == 1) found.2)
    (λ j late below. pair_at pool j ∙ ap (λ n. n == 1) (c.in_ok-index.ensures.least j late below))
