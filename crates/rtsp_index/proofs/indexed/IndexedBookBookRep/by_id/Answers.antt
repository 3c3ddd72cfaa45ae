use Rattle.std.proofs.Common.{ap, ◌∙◌}
use Rattle.std.specs.FinMap.{entries}
use Rattle.rtsp_sessions.specs.Lookups.{with_id_in}
use Rattle.rtsp_index.specs.Agreeing.{book_in}
use Rattle.rtsp_index.proofs.indexed.IndexedBookBookRep.by_id.Goals as goal

pub returns : goal.returns
returns c = c.by_id.ensures (book_in c.parts.result.now) c.parts.ensures.agree.names ∙ ap (λ b. with_id_in c.args.id (entries b)) c.parts.ensures.book
