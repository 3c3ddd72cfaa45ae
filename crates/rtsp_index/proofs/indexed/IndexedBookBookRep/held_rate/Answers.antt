use Rattle.std.proofs.Common.{ap, ◌∙◌}
use Rattle.rtsp_record.specs.Sums.{held_rate}
use Rattle.rtsp_index.specs.Agreeing.{book_in}
use Rattle.rtsp_index.proofs.indexed.IndexedBookBookRep.held_rate.Goals as goal

pub returns : goal.returns
returns c = c.held_rate.ensures (book_in c.parts.result.now) c.parts.ensures.agree.pools ∙ ap held_rate c.parts.ensures.book
