use Rattle.std.proofs.Common.{ap, ◌∙◌}
use Rattle.std.specs.FinMap.{entries}
use Rattle.rtsp_sessions.specs.Lookups.{on_conn_in}
use Rattle.rtsp_index.proofs.indexed.IndexedBookBookRep.on_conn.Goals as goal

pub returns : goal.returns
returns c = c.on_conn.ensures ∙ ap (λ b. on_conn_in c.args.conn (entries b)) c.parts.ensures.book
