use Rattle.std.proofs.Common.{ap, ◌∙◌}
use Rattle.rtsp_record.specs.Choices.{least_pair}
use Rattle.rtsp_index.specs.Agreeing.{book_in}
use Rattle.rtsp_index.proofs.indexed.IndexedBookBookRep.least_pair.Goals as goal

pub returns : goal.returns
returns c =
    let b = book_in c.parts.result.now in
    c.least_pair.ensures b c.parts.ensures.agree.pools
    ∙ ap (λ w. least_pair w b c.args.from) (c.parts.ensures.agree.whole ∙ c.parts.ensures.whole)
    ∙ ap (λ b. least_pair c.args.self.now.whole b c.args.from) c.parts.ensures.book
