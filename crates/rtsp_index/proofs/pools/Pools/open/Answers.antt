use Rattle.std.proofs.Common.{sym, subst, ◌∙◌}
use Rattle.rtsp_record.specs.declared.holdings.Thing.TheVariants.{Port}
use Rattle.rtsp_record.specs.Sums.{UdpPort, Channel, rates}
use Rattle.rtsp_record.specs.Rules.{InWhole}
use Rattle.rtsp_record.proofs.Sound.{amount-empty}
use Rattle.rtsp_index.proofs.PoolLemmas.{nothing_held}
use Rattle.rtsp_index.proofs.pools.Pools.open.Goals as goal

pub returns-clause-free : goal.returns-clause-free
returns-clause-free c =
    record {
      ports = λ q at. c.in_ok-pairs.ensures.free q (subst (λ w. InWhole w (Port q)) c.in_ok-pairs.ensures.whole at) ∙ sym (nothing_held (UdpPort q));
      chans = λ d l. c.open-2.ensures d l ∙ sym (nothing_held (Channel d l));
      rate = c.open-3.ensures.held ∙ sym (amount-empty rates);
    }
