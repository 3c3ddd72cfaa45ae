use Rattle.std.proofs.Common.{ap, ◌∙◌}
use Rattle.rtsp_grammar.specs.Stream.{Feeding}
use Rattle.rtsp_grammar.proofs.FeedLemmas.{fault_takes}
use Rattle.rtsp_grammar.proofs.feed.Feed.read_next.Goals as goal

pub returns-in-Err-clause-takes : goal.returns-in-Err-clause-takes
returns-in-Err-clause-takes c =
    fault_takes c.args.self.now c.is_short.new.self c.keep.new.self c.as_slice.result.now c.in-Err.fault c.if-is_short.ensures.same (c.as_slice.ensures ∙ ap (λ (x : Feeding). x.unread) (c.self-2.view_is ∙ c.if-is_short.ensures.same)) c.in-Err.ensures.fault c.keep.ensures.memory c.keep.ensures.kept
