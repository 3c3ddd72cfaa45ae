use Rattle.rtsp_record.specs.Books.{Session}
use Rattle.rtsp_sessions.proofs.PlainLemmas.{row_missing, closed_row}
use Rattle.rtsp_sessions.proofs.plain.rows.close_row.Goals as goal

pub unreachable-requires : goal.unreachable-requires
unreachable-requires c =
    row_missing {X = Session} c.args.rows.now.items c.deref.result.now c.args.session c.in-Err.field-0 c.requires.in_order c.deref.ensures.value c.in-Err.ensures.err c.requires.there

pub returns-clause-written : goal.returns-clause-written
returns-clause-written c =
    closed_row {X = Session} c.args.rows.now.items c.deref.result.now _ c.args.session c.in-Ok.index c.requires.in_order c.deref.ensures.value c.in-Ok.ensures.ok c.remove.ensures.items
