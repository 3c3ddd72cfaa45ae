use Rattle.std.proofs.Common.{◌≡◌, ◌≤◌}
use Rattle.rtsp_record.specs.Choices.{count_of}
use Rattle.rtsp_pools.specs.Pools.{is_free_chan}
use Rattle.rtsp_pools.proofs.chan_pool.ChanPool.free_count.Given as goal

abbrev pub invariant-loop-pair : goal.invariant-loop-pair
invariant-loop-pair l = (l.count ≤ l.pair) × (l.count ≡ count_of 2 (is_free_chan l.self l.conn) 0 l.pair)
