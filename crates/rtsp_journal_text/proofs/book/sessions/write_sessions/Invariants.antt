use Rattle.std.proofs.Common.{length}
use Rattle.std.specs.FinMap.{entries}
use Rattle.rtsp_journal_text.proofs.Walks.{Walked, rows_from}
use Rattle.rtsp_journal_text.proofs.book.sessions.write_sessions.Given as goal

abbrev pub invariant-loop-view : goal.invariant-loop-view
invariant-loop-view g l = Walked (g.B.BookRep.contents l.book) l.fn.out.items l.out.items l.pairs l.singles l.from

abbrev pub decreases-loop-view : goal.decreases-loop-view
decreases-loop-view g l = length (rows_from l.from (entries (g.B.BookRep.contents l.book)))
