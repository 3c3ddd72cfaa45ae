use Rattle.std.proofs.Common.{◌≡◌, ◌+◌, ◌≤◌, List, ℕ, length}
use Rattle.rtsp_grammar.specs.Lines.{BeginsLines}
use Rattle.rtsp_grammar.specs.Reading.{folded}
use Rattle.rtsp_grammar.proofs.head_at.header_lines_at.Given as goal

-- the lines that are read, and what is left
pub record HasRead (bytes left : List ℕ) (count : ℕ) : Type 0 where
  pub lines : List (List ℕ)
  pub begins : BeginsLines bytes lines left
  pub counted : count ≡ length (folded lines).1
  pub within : count + length left ≤ length bytes

abbrev pub invariant-lines : goal.invariant-lines
invariant-lines l = HasRead l.bytes l.left l.count

abbrev pub decreases-lines : goal.decreases-lines
decreases-lines l = length l.left
