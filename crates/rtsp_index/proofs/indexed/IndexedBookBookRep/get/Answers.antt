use Rattle.std.proofs.Common.{ap, ◌∙◌}
use Rattle.rtsp_sessions.specs.Lookups.{session_at}
use Rattle.rtsp_index.proofs.indexed.IndexedBookBookRep.get.Goals as goal

pub returns : goal.returns
returns c = c.get.ensures ∙ ap (λ b. session_at b c.args.session) c.parts.ensures.book
