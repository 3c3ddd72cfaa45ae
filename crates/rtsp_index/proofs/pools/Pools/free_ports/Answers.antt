use Rattle.std.proofs.Common.{◌∙◌}
use Rattle.rtsp_index.proofs.PoolLemmas.{free_ports_same}
use Rattle.rtsp_index.proofs.pools.Pools.free_ports.Goals as goal

pub returns : goal.returns
returns c b ok = c.free_ports.ensures ∙ free_ports_same b c.args.self.now ok
