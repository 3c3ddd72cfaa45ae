use Rattle.std.proofs.Common.{refl, subst, ◌∙◌}
use Rattle.std.specs.Prelude.{OnOk}
use Rattle.rtsp_index.specs.Contents.{HasRoom}
use Rattle.rtsp_index.specs.Agreeing.{book_in}
use Rattle.rtsp_sessions.proofs.FitLemmas.{none_opens}
use Rattle.rtsp_index.proofs.AgreeLemmas.{reserved}
use Rattle.rtsp_index.proofs.parts.Parts.reserve_sessions.Goals as goal

pub returns-clause-agree : goal.returns-clause-agree
returns-clause-agree c =
    let p = c.args.self.now in
    reserved p.whole (book_in p) _ p.pools p.pools p.names p.names p.counts p.counts c.requires c.reserve.ensures.same refl (λ b h. h) (λ b h. h) (λ b h. h)

pub returns-clause-rows : goal.returns-clause-rows
returns-clause-rows c = subst (λ n. OnOk c.reserve.result (HasRoom c.reserve.new.self n)) c.openings.ensures c.reserve.ensures.room

pub returns-clause-gives : goal.returns-clause-gives
returns-clause-gives c give = c.reserve.ensures.succeeds (c.openings.ensures ∙ none_opens c.args.changes.now give)
