use Rattle.std.proofs.Common.{ap, ◌∙◌}
use Rattle.std.specs.FinMap.{entries}
use Rattle.rtsp_sessions.specs.Lookups.{first_from}
use Rattle.rtsp_index.proofs.indexed.IndexedBookBookRep.next_session.Goals as goal

pub returns : goal.returns
returns c = c.least.ensures ∙ ap (λ b. first_from c.args.from (entries b)) c.parts.ensures.book
