use Rattle.rtsp_book.proofs.Replying.{short_view}
use Rattle.rtsp_book.proofs.reply.case.Case.unwind.Goals as goal

pub take_all_back-requires-clause-short : goal.take_all_back-requires-clause-short
take_all_back-requires-clause-short g c = short_view c.args.self.now.whole c.args.self.now.book c.args.chain.now.session _ c.in-Ok.ensures.sound c.in-Ok.ensures.found.0 c.in-Ok.ensures.found.1
