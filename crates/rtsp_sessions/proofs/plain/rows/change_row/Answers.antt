use Rattle.std.proofs.Common.{ℕ, sym, ap, subst, ◌∙◌}
use Rattle.std.specs.Prelude.{Some}
use Rattle.rtsp_record.specs.Rules.{Living}
use Rattle.rtsp_record.specs.Books.{Session, effect}
use Rattle.rtsp_sessions.specs.Plain.{RoomFor}
use Rattle.rtsp_sessions.proofs.PlainLemmas.{row_none, row_some, changed_row}
use Rattle.rtsp_sessions.proofs.plain.rows.change_row.Goals as goal

pub change-requires : goal.change-requires
change-requires c =
    let old = c.index_mut-row.result.now in
    let there = row_some {X = Session} c.args.rows.now.items c.deref.result.now c.args.session c.in-Ok.index old c.requires.in_order c.deref.ensures.value c.in-Ok.ensures.ok in
    let own = there ∙ ap (λ (v : ℕ × Session). Some v.1) (sym c.index_mut-row.ensures.value) in
    subst (λ o. Living o (RoomFor c.args.change.now)) own c.requires.fits

pub unreachable-requires : goal.unreachable-requires
unreachable-requires c =
    subst (λ o. Living o (RoomFor c.args.change.now)) (row_none {X = Session} c.args.rows.now.items c.deref.result.now c.args.session c.in-Err.field-0 c.requires.in_order c.deref.ensures.value c.in-Err.ensures.err) c.requires.fits

pub returns-clause-written : goal.returns-clause-written
returns-clause-written c =
    let old = c.index_mut-row.result.now in
    let there = row_some {X = Session} c.args.rows.now.items c.deref.result.now c.args.session c.in-Ok.index old c.requires.in_order c.deref.ensures.value c.in-Ok.ensures.ok in
    let own = there ∙ ap (λ (v : ℕ × Session). Some v.1) (sym c.index_mut-row.ensures.value) in
    changed_row {X = Session} c.args.rows.now.items c.deref.result.now c.args.session c.in-Ok.index old c.change.new.self _ c.requires.in_order c.deref.ensures.value c.in-Ok.ensures.ok c.index_mut-row.ensures.value c.change.ensures.number (ap (effect c.args.change.now) own ∙ c.change.ensures.session)
