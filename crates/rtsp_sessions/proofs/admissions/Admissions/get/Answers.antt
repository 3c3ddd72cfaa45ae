use Rattle.std.proofs.Common.{sym, ap, ◌∙◌}
use Rattle.std.specs.FinMap.{get}
use Rattle.rtsp_record.specs.Tables.{Table}
use Rattle.rtsp_record.specs.declared.holdings.Admission.{Admission}
use Rattle.rtsp_sessions.proofs.SortedRows.{found, absent}
use Rattle.rtsp_sessions.proofs.admissions.Admissions.get.Goals as goal

pub returns-in-Ok : goal.returns-in-Ok
returns-in-Ok c =
    let rows = c.rows-rows.ensures in
    sym (found c.args.admission c.rows-rows.result.now c.in-Ok.index _ rows.in_order c.in-Ok.ensures.ok) ∙ ap (λ (t : Table Admission). get t c.args.admission) rows.table

pub returns-in-Err : goal.returns-in-Err
returns-in-Err c =
    let rows = c.rows-rows.ensures in
    sym (absent c.args.admission c.rows-rows.result.now c.in-Err.field-0 rows.in_order c.in-Err.ensures.err) ∙ ap (λ (t : Table Admission). get t c.args.admission) rows.table
