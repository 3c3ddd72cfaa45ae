use Rattle.rtsp_sessions.specs.Searches.{is_on}
use Rattle.rtsp_book.proofs.Replying.{short_found}
use Rattle.rtsp_book.proofs.reply.case.Case.hang_up.Goals as goal

pub end-requires-clause-short : goal.end-requires-clause-short
end-requires-clause-short g c = short_found c.args.self.now.whole c.args.self.now.book (is_on c.args.conn) _ c.in-Some.ensures.sound c.in-Some.ensures.found
