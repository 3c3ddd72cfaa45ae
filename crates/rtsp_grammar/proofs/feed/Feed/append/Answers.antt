use Rattle.std.proofs.Common.{sym, ◌∙◌}
use Rattle.rtsp_grammar.proofs.FeedLemmas.{pushed}
use Rattle.rtsp_grammar.proofs.ItemLemmas.{not_empty}
use Rattle.rtsp_grammar.proofs.feed.Feed.append.Goals as goal

pub invariant_of-self : goal.invariant_of-self
invariant_of-self c = pushed c.self.inside.bytes.items c.args.piece.now c.extend_from_slice.new.self.items c.self.inside.progress c.extend_from_slice.new.self.spare c.self.invariant.0 c.in-Ok.ensures.ok (not_empty c.args.piece.now (sym c.if-is_empty.false ∙ c.is_empty.ensures))
