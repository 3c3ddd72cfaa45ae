use Rattle.std.proofs.Common.{◌∙◌}
use Rattle.rtsp_pools.specs.Pools.{is_free_port}
use Rattle.rtsp_index.proofs.PoolLemmas.{least_port_same}
use Rattle.rtsp_index.proofs.pools.Pools.least_port.Goals as goal

pub returns : goal.returns
returns c b ok = c.least_free_port.ensures ∙ least_port_same (is_free_port c.args.self.now.pairs) c.args.self.now.pairs.whole b c.args.from ok.ports
