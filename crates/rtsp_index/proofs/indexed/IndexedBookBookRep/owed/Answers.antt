use Rattle.std.proofs.Common.{ap, ◌∙◌}
use Rattle.rtsp_record.specs.Sums.{owed}
use Rattle.rtsp_index.proofs.indexed.IndexedBookBookRep.owed.Goals as goal

pub returns : goal.returns
returns c = c.owed.ensures ∙ c.parts.ensures.agree.counts.owed ∙ ap owed c.parts.ensures.book
