use Rattle.std.proofs.Common.{sym, ◌∙◌}
use Rattle.rtsp_index.proofs.AboveLemmas.{next_above, next_skipped}
use Rattle.rtsp_index.proofs.table.SessionTable.put_above.Goals as goal

pub returns-then-is_above : goal.returns-then-is_above
returns-then-is_above c =
    next_above c.args.self.now c.args.above c.args.index c.number_at-number.result c.number_at-number.ensures c.args.found.now c.insert.new.self (sym c.is_above.ensures ∙ c.if-is_above.true) c.requires.before c.insert.ensures

pub returns-else-is_above : goal.returns-else-is_above
returns-else-is_above c =
    next_skipped c.args.self.now c.args.above c.args.index c.number_at-number.result c.number_at-number.ensures c.args.found.now (sym c.is_above.ensures ∙ c.if-is_above.false) c.requires.before
