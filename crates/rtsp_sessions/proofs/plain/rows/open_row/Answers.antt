use Rattle.rtsp_record.specs.Books.{Session}
use Rattle.rtsp_sessions.proofs.PlainLemmas.{row_some, opened_row}
use Rattle.rtsp_sessions.proofs.plain.rows.open_row.Goals as goal

pub unreachable-requires : goal.unreachable-requires
unreachable-requires c =
    cc (row_some {X = Session} c.args.rows.now.items c.deref.result.now c.session.result c.in-Ok.field-0 c.args.view c.requires.in_order c.deref.ensures.value c.in-Ok.ensures.ok, c.requires.new)

pub returns-clause-written : goal.returns-clause-written
returns-clause-written c =
    opened_row {X = Session} c.args.rows.now.items c.deref.result.now _ c.session.result c.in-Err.index c.args.view c.requires.in_order c.deref.ensures.value c.in-Err.ensures.err c.session.ensures c.in-Ok-insert.ensures.items
