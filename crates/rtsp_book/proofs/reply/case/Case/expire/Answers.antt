use Rattle.rtsp_sessions.specs.Searches.{is_expired}
use Rattle.rtsp_book.proofs.Replying.{short_found}
use Rattle.rtsp_book.proofs.reply.case.Case.expire.Goals as goal

pub end-requires-clause-short : goal.end-requires-clause-short
end-requires-clause-short g c = short_found c.args.self.now.whole c.args.self.now.book (is_expired c.args.now) _ c.in-Some.ensures.sound c.in-Some.ensures.found
