use Rattle.std.proofs.Common.{ap, ◌∙◌, take}
use Rattle.std.specs.FinMap.{entries}
use Rattle.rtsp_sessions.specs.Lookups.{numbers_above}
use Rattle.rtsp_index.proofs.indexed.IndexedBookBookRep.next_sessions.Goals as goal

pub returns : goal.returns
returns c = c.least_above.ensures ∙ ap (λ b. take 256 (numbers_above c.args.above (entries b))) c.parts.ensures.book
