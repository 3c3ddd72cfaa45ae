use Rattle.std.proofs.Common.{ap, ◌∙◌}
use Rattle.std.specs.FinMap.{entries}
use Rattle.rtsp_book.specs.Cases.{Case}
use Rattle.rtsp_sessions.specs.Searches.{is_on, first_with}
use Rattle.rtsp_book.proofs.Replying.{found_view}
use Rattle.rtsp_book.proofs.reply.case.Case.first_on.Goals as goal

pub returns-clause-found : goal.returns-clause-found
returns-clause-found g c =
    c.get.ensures ∙ found_view _ (is_on c.args.conn) _ c.in_ok-on_conn.ensures ∙ ap (λ (x : Case). first_with (is_on c.args.conn) (entries x.book)) c.self.view_is
