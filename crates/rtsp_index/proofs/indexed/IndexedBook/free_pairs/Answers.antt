use Rattle.std.proofs.Common.{ap, ◌∙◌}
use Rattle.rtsp_index.specs.Agreeing.{book_in}
use Rattle.rtsp_index.specs.Free.{free_pairs}
use Rattle.rtsp_index.proofs.indexed.IndexedBook.free_pairs.Goals as goal

pub returns : goal.returns
returns c =
    let b = book_in c.parts.result.now in
    c.free_pairs.ensures b c.parts.ensures.agree.pools
    ∙ ap (λ w. free_pairs w b) (c.parts.ensures.agree.whole ∙ c.parts.ensures.whole)
    ∙ ap (free_pairs c.args.self.now.whole) c.parts.ensures.book
