use Rattle.std.proofs.Common.{◌≤◌, refl, subst, ◌∙◌}
use Rattle.std.specs.Prelude.{OnOk}
use Rattle.indexmap.specs.IndexMap.{spare}
use Rattle.rtsp_index.specs.Agreeing.{book_in}
use Rattle.rtsp_index.proofs.AgreeLemmas.{reserved, none_holds}
use Rattle.rtsp_index.proofs.parts.Parts.reserve_channels.Goals as goal

pub returns-clause-agree : goal.returns-clause-agree
returns-clause-agree c =
    let p = c.args.self.now in
    reserved p.whole (book_in p) (book_in p) p.pools c.reserve.new.self p.names p.names p.counts p.counts c.requires refl c.reserve.ensures.whole c.reserve.ensures.same (λ b h. h) (λ b h. h)

pub returns-clause-chans : goal.returns-clause-chans
returns-clause-chans c = subst (λ n. OnOk c.reserve.result (n ≤ spare c.reserve.new.self.chans.held)) c.chan_holds.ensures c.reserve.ensures.room

pub returns-clause-gives : goal.returns-clause-gives
returns-clause-gives c give = c.reserve.ensures.succeeds (c.chan_holds.ensures ∙ none_holds c.args.changes.now give)
