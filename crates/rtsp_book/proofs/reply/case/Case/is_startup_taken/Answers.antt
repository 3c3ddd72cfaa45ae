use Rattle.std.proofs.Common.{rules}
use Rattle.rtsp_sessions.proofs.Counted.{startup_counted}
use Rattle.rtsp_book.proofs.reply.case.Case.is_startup_taken.Goals as goal

pub returns-else-is_some : goal.returns-else-is_some
returns-else-is_some g c = search (rules, startup_counted)
