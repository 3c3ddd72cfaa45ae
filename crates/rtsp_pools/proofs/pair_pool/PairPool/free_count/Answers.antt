use Rattle.std.proofs.Common.{sym, ap, ◌∙◌}
use Rattle.rtsp_record.specs.Sums.{one_if}
use Rattle.rtsp_pools.specs.Bits.{count_below}
use Rattle.rtsp_pools.specs.Pools.{is_free_pair}
use Rattle.rtsp_pools.proofs.BitLemmas.{flag}
use Rattle.rtsp_pools.proofs.PortLemmas.{pair_at}
use Rattle.rtsp_pools.proofs.LeastLemmas.{counted}
use Rattle.rtsp_pools.proofs.pair_pool.PairPool.free_count.Goals as goal

pub returns : goal.returns
returns c =
    let pool = c.args.self.now in
    let words = pool.free.words.items in
    c.len.ensures ∙ ap (count_below words) pool.sized
    ∙ counted 2 words (is_free_pair pool) pool.whole.first_port pool.whole.pairs (λ j lt. flag words j ∙ ap one_if (sym (pair_at pool j)))
