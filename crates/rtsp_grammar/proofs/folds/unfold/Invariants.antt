use Rattle.std.proofs.Common.{◌≤◌, List, ℕ, length}
use Rattle.rtsp_grammar.specs.Lines.{AreLines}
use Rattle.rtsp_grammar.proofs.FoldLemmas.{IsUnfolding}
use Rattle.rtsp_grammar.proofs.folds.unfold.Given as goal

abbrev pub invariant-folds : goal.invariant-folds
invariant-folds l = (length l.left ≤ length l.lines) × ((lines : List (List ℕ)) → AreLines l.lines lines → IsUnfolding l.fn.line.items l.line.items lines l.left)

abbrev pub decreases-folds : goal.decreases-folds
decreases-folds l = length l.left
