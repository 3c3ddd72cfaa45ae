use Rattle.rtsp_book.proofs.Replying.{short_view}
use Rattle.rtsp_book.proofs.reply.case.Case.drop_track.Goals as goal

pub end-requires-clause-short : goal.end-requires-clause-short
end-requires-clause-short g c = short_view c.args.self.now.whole c.args.self.now.book c.args.session _ c.in_ok-view.ensures.sound c.in_ok-view.ensures.found.0 c.in_ok-view.ensures.found.1
