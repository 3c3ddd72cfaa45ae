use Rattle.std.proofs.Common.{sym, ap, ◌∙◌}
use Rattle.std.specs.FinMap.{entries}
use Rattle.rtsp_record.specs.Books.{Book}
use Rattle.rtsp_sessions.proofs.SortedRows.{entries_of}
use Rattle.rtsp_sessions.proofs.plain.rows.Rows.views.Goals as goal

pub returns-clause-entries : goal.returns-clause-entries
returns-clause-entries c = c.deref.ensures.value ∙ sym (entries_of c.self.inside.views.items c.self.invariant.in_order) ∙ ap (λ (b : Book). entries b) c.self.view_is
