use Rattle.std.proofs.Common.{List, ℕ, ◌++◌, ◌∷◌, [], sym, ap, ◌∙◌, arith}
use Rattle.rtsp_grammar.proofs.FoldLemmas.{unfolding_goes_on, unfolding_ends}
use Rattle.rtsp_grammar.proofs.LinesLemmas.{blank_some, split_shorter}
use Rattle.rtsp_grammar.proofs.folds.unfold.Goals as goal

pub folds-smaller : goal.folds-smaller
folds-smaller c =
    let some = blank_some c.folds.left.now (sym c.begins_blank.ensures ∙ c.folds-test.true) in
    split_shorter c.folds.left.now c.split_line.result.0.now c.split_line.result.1.now c.split_line.ensures some

pub folds-preserved : goal.folds-preserved
folds-preserved c =
    let blank = sym c.begins_blank.ensures ∙ c.folds-test.true in
    let shorter = split_shorter c.folds.left.now c.split_line.result.0.now c.split_line.result.1.now c.split_line.ensures (blank_some c.folds.left.now blank) in
    let text = c.in_ok-extend_from_slice.ensures.items ∙ ap (λ (t : List ℕ). t ++ c.trim_start.result.now) c.in_ok-push.ensures.items ∙ ap (λ (t : List ℕ). (c.folds.line.items ++ 32 ∷ []) ++ t) c.trim_start.ensures in (
      omega (arith, shorter, c.folds.invariant.0),
      λ ls a. unfolding_goes_on c.args.line.now.items c.folds.line.items c.extend_from_slice.new.self.items ls c.folds.left.now c.split_line.result.0.now c.split_line.result.1.now (c.folds.invariant.1 ls a) blank c.split_line.ensures text,
    )

pub returns-clause-unfolds : goal.returns-clause-unfolds
returns-clause-unfolds c = λ ls a. unfolding_ends c.args.line.now.items c.folds.line.items ls c.folds.left.now (c.folds.invariant.1 ls a) (sym c.begins_blank.ensures ∙ c.folds-test.false)
