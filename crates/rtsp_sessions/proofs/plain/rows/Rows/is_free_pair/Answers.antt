use Rattle.std.proofs.Common.{ap, ◌∙◌}
use Rattle.rtsp_record.specs.Choices.{is_pair_free}
use Rattle.rtsp_sessions.proofs.FreeLemmas.{free_pair}
use Rattle.rtsp_sessions.proofs.plain.rows.Rows.is_free_pair.Goals as goal

pub returns-then-has_pair : goal.returns-then-has_pair
returns-then-has_pair c =
    free_pair c.args.whole.now c.args.self.now c.args.first _ (c.has_pair.ensures.0 c.if-has_pair.true) (c.is_pair_free.ensures ∙ ap (is_pair_free c.args.self.now) c.from.ensures)
