use Rattle.std.proofs.Common.{arith, sym, ◌∙◌}
use Rattle.std.proofs.lemmas.Result.{err_from_is_err_and}
use Rattle.rtsp_text.proofs.AppendLemmas.{kept_front}
use Rattle.rtsp_journal_text.proofs.Walks.{walk_begins, walk_goes, walk_within, walk_shorter, walk_stops, walk_ends}
use Rattle.rtsp_journal_text.proofs.book.sessions.write_sessions.Goals as goal

pub loop-view-init : goal.loop-view-init
loop-view-init g c = walk_begins (g.B.BookRep.contents c.args.book.now) c.args.out.now.items

pub returns-in_err-write_session-clause-front : goal.returns-in_err-write_session-clause-front
returns-in_err-write_session-clause-front g c =
    let p = err_from_is_err_and c.from_residual.result c.from_residual.ensures.1 in
    rw p.1 (kept_front c.args.out.now.items c.loop-view.out.items c.write_session.new.out.items _ c.loop-view.invariant.text c.in_err-write_session.ensures)

pub overflow_add-pairs : goal.overflow_add-pairs
overflow_add-pairs g c = omega (arith, walk_within c.loop-view.invariant (sym c.next_view.ensures ∙ c.in-Some.is), c.requires.few, c.held_by-held.ensures.pairs)

pub overflow_add-singles : goal.overflow_add-singles
overflow_add-singles g c = omega (arith, walk_within c.loop-view.invariant (sym c.next_view.ensures ∙ c.in-Some.is), c.requires.few, c.held_by-held.ensures.singles)

pub returns-then-last-session : goal.returns-then-last-session
returns-then-last-session g c =
    let held = c.held_by-held.ensures in
    let next = walk_goes c.loop-view.invariant (sym c.next_view.ensures ∙ c.in-Some.is) c.in_ok-write_session.ensures held.pairs held.singles in
    let all = walk_stops next c.args.last c.requires.last (omega (arith, c.if-last-session.true, c.session.ensures)) in
    record { text = all.text; front = tt; pairs = all.paired_is; singles = all.single_is }

pub loop-view-smaller : goal.loop-view-smaller
loop-view-smaller g c = rw c.session-from.ensures (walk_shorter (g.B.BookRep.contents c.args.book.now) c.loop-view.from c.in-Some.view (sym c.next_view.ensures ∙ c.in-Some.is))

pub loop-view-preserved : goal.loop-view-preserved
loop-view-preserved g c =
    let held = c.held_by-held.ensures in
    rw c.session-from.ensures (walk_goes c.loop-view.invariant (sym c.next_view.ensures ∙ c.in-Some.is) c.in_ok-write_session.ensures held.pairs held.singles)

pub returns : goal.returns
returns g c =
    let all = walk_ends c.loop-view.invariant (sym c.next_view.ensures ∙ c.in_default.is) in
    record { text = all.text; front = tt; pairs = all.paired_is; singles = all.single_is }
