use Rattle.rtsp_grammar.proofs.FeedLemmas.{whole_short, head_short}
use Rattle.rtsp_grammar.proofs.feed.Feed.is_short.Goals as goal

pub returns-in-Whole-clause-short : goal.returns-in-Whole-clause-short
returns-in-Whole-clause-short c = whole_short c.args.self.now c.self.inside.bytes.items c.self.inside.fault c.self.inside.progress c.len.result c.in-Whole.len c.self.view_is c.self.invariant.0 c.in-Whole.is c.len.ensures.value

pub returns-in-Some-clause-short : goal.returns-in-Some-clause-short
returns-in-Some-clause-short c = head_short c.args.self.now c.self.inside.bytes.items c.as_slice.result.now c.self.inside.fault c.len-in-Head.result c.self.view_is c.as_slice.ensures c.len-in-Head.ensures.value c.if-len-ge-HEAD_LIMIT.false c.in-Some.ensures.open
