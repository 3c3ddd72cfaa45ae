use Rattle.std.proofs.Common.{◌∙◌}
use Rattle.rtsp_index.proofs.PoolLemmas.{free_pairs_same}
use Rattle.rtsp_index.proofs.pools.Pools.free_pairs.Goals as goal

pub returns : goal.returns
returns c b ok = c.free_count.ensures ∙ free_pairs_same b c.args.self.now ok
