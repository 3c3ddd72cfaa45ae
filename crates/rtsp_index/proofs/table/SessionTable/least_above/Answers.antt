use Rattle.std.proofs.Common.{ap, sym, ◌∙◌, take, List, ℕ}
use Rattle.rtsp_record.specs.Books.{Session}
use Rattle.rtsp_record.proofs.Tables.{no_entries}
use Rattle.rtsp_sessions.specs.Lookups.{numbers_above}
use Rattle.rtsp_index.proofs.table.SessionTable.least_above.Goals as goal

pub loop-index-init : goal.loop-index-init
loop-index-init c = c.clear.ensures ∙ ap (λ (l : List (ℕ × Session)). take 256 (numbers_above c.args.above l)) (sym no_entries)
