use Rattle.std.proofs.Common.{List, ℕ, length}
use Rattle.rtsp_grammar.specs.Lines.{AreLines}
use Rattle.rtsp_grammar.proofs.HeaderLemmas.{IsReading}
use Rattle.rtsp_grammar.proofs.header_line.headers_of.Given as goal

abbrev pub invariant-headers : goal.invariant-headers
invariant-headers l = (lines : List (List ℕ)) → AreLines l.lines lines → IsReading lines l.headers.headers l.left

abbrev pub decreases-headers : goal.decreases-headers
decreases-headers l = length l.left
