use Rattle.std.proofs.Common.{◌/◌, ◌∙◌, arith}
use Rattle.rtsp_record.specs.declared.holdings.Thing.TheVariants.{Pair, Port}
use Rattle.rtsp_sessions.proofs.FreeLemmas.{free_chan}
use Rattle.rtsp_index.proofs.PoolLemmas.{chans_same, same_free}
use Rattle.rtsp_index.proofs.pools.Pools.is_free.Goals as goal

pub returns-in-Pair : goal.returns-in-Pair
returns-in-Pair c b ok =
    let same = same_free b c.args.self.now (Pair c.in-Pair.first) ok in
    rw c.in-Pair.is (λ h. let at = c.is_free.ensures.0 h in (same at.0).0 at.1, λ h. c.is_free.ensures.1 (h.in_whole, (same h.in_whole).1 h))

pub returns-in-Port : goal.returns-in-Port
returns-in-Port c b ok =
    let same = same_free b c.args.self.now (Port c.in-Port.port) ok in
    rw c.in-Port.is (λ h. let at = c.is_free_port.ensures.0 h in (same at.0).0 at.1, λ h. c.is_free_port.ensures.1 (h.in_whole, (same h.in_whole).1 h))

pub returns-then-first-eq0 : goal.returns-then-first-eq0
returns-then-first-eq0 c b ok =
    let k = c.in-Chan.first in
    rw c.in-Chan.is (free_chan c.args.self.now.pairs.whole b c.in-Chan.conn k _ (k / 2, omega arith, omega arith) (c.is_free-then-first-eq0.ensures ∙ chans_same b c.args.self.now c.in-Chan.conn ok k))
