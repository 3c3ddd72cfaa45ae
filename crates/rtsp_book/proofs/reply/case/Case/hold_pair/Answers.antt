use Rattle.std.proofs.Common.{sym, ◌∙◌}
use Rattle.rtsp_record.proofs.Choices.{chosen_pair}
use Rattle.rtsp_book.proofs.reply.case.Case.hold_pair.Goals as goal

pub hold-requires-clause-free : goal.hold-requires-clause-free
hold-requires-clause-free g c = chosen_pair c.args.self.now.whole c.args.self.now.book c.args.from c.in_ok-port.port (sym c.least_pair.ensures ∙ c.in_ok-port.ensures.ok_part)
