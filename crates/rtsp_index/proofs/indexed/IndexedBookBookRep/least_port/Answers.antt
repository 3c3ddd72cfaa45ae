use Rattle.std.proofs.Common.{ap, ◌∙◌}
use Rattle.rtsp_record.specs.Choices.{least_port}
use Rattle.rtsp_index.specs.Agreeing.{book_in}
use Rattle.rtsp_index.proofs.indexed.IndexedBookBookRep.least_port.Goals as goal

pub returns : goal.returns
returns c =
    let b = book_in c.parts.result.now in
    c.least_port.ensures b c.parts.ensures.agree.pools
    ∙ ap (λ w. least_port w b c.args.from) (c.parts.ensures.agree.whole ∙ c.parts.ensures.whole)
    ∙ ap (λ b. least_port c.args.self.now.whole b c.args.from) c.parts.ensures.book
