use Rattle.std.proofs.Common.{ap, ◌∙◌}
use Rattle.std.specs.FinMap.{entries}
use Rattle.rtsp_sessions.specs.Lookups.{unsettled_in}
use Rattle.rtsp_index.proofs.indexed.IndexedBookBookRep.unsettled.Goals as goal

pub returns : goal.returns
returns c = c.least.ensures ∙ ap (λ b. unsettled_in (entries b)) c.parts.ensures.book
