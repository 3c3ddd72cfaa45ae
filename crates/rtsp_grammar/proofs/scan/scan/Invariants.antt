use Rattle.std.proofs.Common.{◌≤◌, length}
use Rattle.rtsp_grammar.specs.Scan.{IsReached}
use Rattle.rtsp_grammar.proofs.scan.scan.Given as goal

abbrev pub invariant-lines : goal.invariant-lines
invariant-lines l = IsReached l.bytes l.reached l.left × (length l.left ≤ length l.bytes)

abbrev pub decreases-lines : goal.decreases-lines
decreases-lines l = length l.left
