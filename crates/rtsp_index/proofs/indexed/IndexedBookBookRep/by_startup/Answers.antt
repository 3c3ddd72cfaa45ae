use Rattle.std.proofs.Common.{ap, ◌∙◌}
use Rattle.std.specs.FinMap.{entries}
use Rattle.rtsp_sessions.specs.Lookups.{with_startup_in}
use Rattle.rtsp_index.specs.Agreeing.{book_in}
use Rattle.rtsp_index.proofs.indexed.IndexedBookBookRep.by_startup.Goals as goal

pub returns : goal.returns
returns c = c.by_startup.ensures (book_in c.parts.result.now) c.parts.ensures.agree.names ∙ ap (λ b. with_startup_in c.args.conn c.args.number (entries b)) c.parts.ensures.book
