-- The rows of the page as the code has them.
use Rattle.std.specs.Prelude.{ℕ, ◌+◌, List}
use Rattle.rtsp_metrics.specs.declared.rows.Row.{Row}
use Rattle.rtsp_metrics.specs.declared.rows.Row.TheVariants.{Number, Bar, Held, Answers, Heads}
use Rattle.rtsp_metrics.specs.Page.{number_row, bar_row, answers_row}

-- the text of a row
abbrev pub row_text : Row → List ℕ
row_text (Number name n) = number_row name.now n
row_text (Bar name part whole) = bar_row name.now part whole
row_text (Held name of) = bar_row name.now of.held (of.held + of.free)
row_text (Answers name n) = answers_row name.now n
row_text (Heads text) = text.now
