use Rattle.std.proofs.Common.{sym, ◌∙◌}
use Rattle.rtsp_journal_text.proofs.Walks.{view_next, view_none}
use Rattle.rtsp_journal_text.proofs.book.sessions.next_view.Goals as goal

pub returns-in-Some : goal.returns-in-Some
returns-in-Some g c = c.session.ensures ∙ view_next (g.B.BookRep.contents c.args.book.now) c.args.from c.in-Some.session (sym c.next_session.ensures ∙ c.in-Some.is)

pub returns-in-None : goal.returns-in-None
returns-in-None g c = sym (view_none (g.B.BookRep.contents c.args.book.now) c.args.from (sym c.next_session.ensures ∙ c.in-None.is))
