use Rattle.rtsp_grammar.proofs.FeedLemmas.{fed_push}
use Rattle.rtsp_grammar.proofs.feed.Feed.push.Goals as goal

pub returns-clause-fed : goal.returns-clause-fed
returns-clause-fed c text items f = fed_push text c.args.piece.now items c.args.self.now c.append.new.self c.append.result f c.append.ensures.ok
