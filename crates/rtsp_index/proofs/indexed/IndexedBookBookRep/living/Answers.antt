use Rattle.std.proofs.Common.{ap, ◌∙◌}
use Rattle.rtsp_record.specs.Sums.{living}
use Rattle.rtsp_index.proofs.indexed.IndexedBookBookRep.living.Goals as goal

pub returns : goal.returns
returns c = c.living.ensures ∙ c.parts.ensures.agree.counts.living ∙ ap living c.parts.ensures.book
