use Rattle.std.proofs.Common.{sym, ap, ◌∙◌}
use Rattle.std.specs.FinMap.{entries}
use Rattle.rtsp_sessions.proofs.SortedRows.{entries_of}
use Rattle.rtsp_sessions.proofs.admissions.Admissions.rows.Goals as goal

pub returns-clause-rows : goal.returns-clause-rows
returns-clause-rows c = sym (entries_of _ c.self.invariant.1) ∙ ap entries c.self.view_is
