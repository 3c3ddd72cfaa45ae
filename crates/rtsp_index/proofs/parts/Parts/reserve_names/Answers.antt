use Rattle.std.proofs.Common.{refl, ◌∙◌}
use Rattle.rtsp_index.specs.Agreeing.{book_in}
use Rattle.rtsp_sessions.proofs.FitLemmas.{none_opens}
use Rattle.rtsp_index.proofs.AgreeLemmas.{reserved, none_binds}
use Rattle.rtsp_index.proofs.parts.Parts.reserve_names.Goals as goal

pub returns-in_err-reserve-clause-agree : goal.returns-in_err-reserve-clause-agree
returns-in_err-reserve-clause-agree c =
    let p = c.args.self.now in
    reserved p.whole (book_in p) (book_in p) p.pools p.pools p.names c.reserve.new.self p.counts p.counts c.requires refl refl (λ b h. h) c.reserve.ensures.same (λ b h. h)

pub returns-in_err-reserve-clause-gives : goal.returns-in_err-reserve-clause-gives
returns-in_err-reserve-clause-gives c give =
    let bad = c.in_err-reserve.ensures.succeeds (c.openings.ensures ∙ none_opens c.args.changes.now give) (c.binds-bound.ensures ∙ none_binds c.args.changes.now give) in
    absurd cc

pub returns-clause-agree : goal.returns-clause-agree
returns-clause-agree c =
    let p = c.args.self.now in
    reserved p.whole (book_in p) (book_in p) p.pools p.pools p.names c.reserve.new.self p.counts c.reserve-2.new.self c.requires refl refl (λ b h. h) c.reserve.ensures.same c.reserve-2.ensures.same

pub returns-clause-gives : goal.returns-clause-gives
returns-clause-gives c give = c.reserve-2.ensures.succeeds (c.binds-bound.ensures ∙ none_binds c.args.changes.now give)
