use Rattle.rtsp_grammar.proofs.FeedLemmas.{fed_result}
use Rattle.rtsp_grammar.proofs.feed.Feed.next.Goals as goal

pub returns-clause-fed : goal.returns-clause-fed
returns-clause-fed c text items f = fed_result text items c.args.self.now c.read_next.new.self c.read_next.result f c.read_next.ensures.kept c.read_next.ensures.takes
