use Rattle.std.proofs.Common.{ap, ◌∙◌}
use Rattle.rtsp_record.specs.Choices.{is_port_free}
use Rattle.rtsp_sessions.proofs.FreeLemmas.{free_port}
use Rattle.rtsp_sessions.proofs.plain.rows.Rows.is_free_port.Goals as goal

pub returns-then-has_port : goal.returns-then-has_port
returns-then-has_port c =
    free_port c.args.whole.now c.args.self.now c.args.port _ (c.has_port.ensures.0 c.if-has_port.true) (c.is_port_free.ensures ∙ ap (is_port_free c.args.self.now) c.from.ensures)
