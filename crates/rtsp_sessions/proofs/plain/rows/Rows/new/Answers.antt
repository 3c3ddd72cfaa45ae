use Rattle.std.proofs.Common.{List, ℕ, ap, ◌∙◌}
use Rattle.rtsp_record.specs.Books.{Session}
use Rattle.rtsp_sessions.specs.Plain.{table_of}
use Rattle.rtsp_sessions.proofs.SortedRows.{no_rows}
use Rattle.rtsp_sessions.proofs.plain.rows.Rows.new.Goals as goal

pub returns : goal.returns
returns c = ap (λ (es : List (ℕ × Session)). table_of es) c.new.ensures.items ∙ no_rows {X = Session}
