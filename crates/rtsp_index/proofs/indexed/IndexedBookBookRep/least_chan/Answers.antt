use Rattle.std.proofs.Common.{ap, ◌∙◌}
use Rattle.rtsp_record.specs.Choices.{chosen_chan}
use Rattle.rtsp_index.specs.Agreeing.{book_in}
use Rattle.rtsp_index.proofs.indexed.IndexedBookBookRep.least_chan.Goals as goal

pub returns : goal.returns
returns c = c.least_chan.ensures (book_in c.parts.result.now) c.parts.ensures.agree.pools ∙ ap (λ b. chosen_chan b c.args.conn c.args.wish) c.parts.ensures.book
