use Rattle.std.proofs.Common.{ap, ◌∙◌}
use Rattle.std.specs.FinMap.{entries}
use Rattle.rtsp_sessions.specs.Lookups.{expired_in}
use Rattle.rtsp_index.proofs.indexed.IndexedBookBookRep.due.Goals as goal

pub returns : goal.returns
returns c = c.due.ensures ∙ ap (λ b. expired_in c.args.now (entries b)) c.parts.ensures.book
