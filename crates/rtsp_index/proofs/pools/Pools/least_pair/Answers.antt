use Rattle.std.proofs.Common.{◌∙◌}
use Rattle.rtsp_pools.specs.Pools.{is_free_pair}
use Rattle.rtsp_index.proofs.PoolLemmas.{least_pair_same, pairs_same}
use Rattle.rtsp_index.proofs.pools.Pools.least_pair.Goals as goal

pub returns : goal.returns
returns c b ok =
    let pools = c.args.self.now in
    c.least_free.ensures ∙ least_pair_same (is_free_pair pools.pairs) pools.pairs.whole b c.args.from (pairs_same b pools ok)
