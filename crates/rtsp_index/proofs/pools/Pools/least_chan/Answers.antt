use Rattle.std.proofs.Common.{◌≡◌, ◌∙◌, ap}
use Rattle.rtsp_record.specs.Choices.{is_chan_free, chosen_chan_by}
use Rattle.rtsp_pools.specs.Pools.{is_free_chan}
use Rattle.rtsp_index.proofs.PoolLemmas.{chans_same}
use Rattle.rtsp_index.proofs.pools.Pools.least_chan.Goals as goal

pub returns : goal.returns
returns c b ok =
    let same : is_free_chan c.args.self.now.chans c.args.conn ≡ is_chan_free b c.args.conn = λ t k. chans_same b c.args.self.now c.args.conn ok k t in
    c.least_or_wish.ensures ∙ ap (λ f. chosen_chan_by f c.args.wish) same
