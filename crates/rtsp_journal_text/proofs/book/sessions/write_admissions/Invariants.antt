use Rattle.std.proofs.Common.{◌≡◌, ◌++◌, take}
use Rattle.std.specs.List.{flat_map}
use Rattle.std.specs.FinMap.{entries}
use Rattle.rtsp_journal_text.specs.BookText.{admission_text}
use Rattle.rtsp_journal_text.proofs.book.sessions.write_admissions.Given as goal

abbrev pub invariant-loop-index : goal.invariant-loop-index
invariant-loop-index l = l.out.items ≡ l.fn.out.items ++ flat_map (admission_text l.session) (take l.index (entries l.admissions))
