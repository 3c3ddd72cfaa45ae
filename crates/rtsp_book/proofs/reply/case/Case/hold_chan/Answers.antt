use Rattle.std.proofs.Common.{sym, ◌∙◌}
use Rattle.rtsp_record.proofs.Choices.{chosen_chan_free}
use Rattle.rtsp_book.proofs.reply.case.Case.hold_chan.Goals as goal

pub hold-requires-clause-free : goal.hold-requires-clause-free
hold-requires-clause-free g c =
    chosen_chan_free c.args.self.now.whole c.args.self.now.book c.args.hold.conn c.args.hold.wish c.in_ok-channel.channel c.requires.wish (sym c.least_chan.ensures ∙ c.in_ok-channel.ensures.ok_part)
