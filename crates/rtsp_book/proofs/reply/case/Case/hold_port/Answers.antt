use Rattle.std.proofs.Common.{sym, ◌∙◌}
use Rattle.rtsp_record.proofs.Choices.{chosen_port}
use Rattle.rtsp_book.proofs.reply.case.Case.hold_port.Goals as goal

pub hold-requires-clause-free : goal.hold-requires-clause-free
hold-requires-clause-free g c = chosen_port c.args.self.now.whole c.args.self.now.book c.args.from c.in_ok-port.port (sym c.least_port.ensures ∙ c.in_ok-port.ensures.ok_part)
