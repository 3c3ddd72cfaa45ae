use Rattle.std.proofs.Common.{sym, ap, ◌∙◌, ◌+◌, take, List, ℕ, arith}
use Rattle.std.specs.Prelude.{nat_eq, codes}
use Rattle.std.specs.List.{starts_with}
use Rattle.std.proofs.lemmas.List.{take_rest}
use Rattle.rtsp_state.proofs.ParameterLemmas.{line_more, line_breaks, line_ends}
use Rattle.rtsp_state.proofs.parameters.first_line.Goals as goal

pub returns-then-is_line_end : goal.returns-then-is_line_end
returns-then-is_line_end c =
    let e = ap (λ (t : List ℕ). starts_with nat_eq t (codes "\r\n")) (sym (take_rest c.args.text.now c.loop-index.index)) ∙ sym c.is_line_end.ensures ∙ c.if-is_line_end.true in
    ap (λ (t : List ℕ). (take c.loop-index.index c.args.text.now, t)) (take_rest c.args.text.now (c.loop-index.index + 2)) ∙ line_breaks c.args.text.now c.loop-index.index e c.loop-index.invariant

pub loop-index-preserved : goal.loop-index-preserved
loop-index-preserved c =
    let e = ap (λ (t : List ℕ). starts_with nat_eq t (codes "\r\n")) (sym (take_rest c.args.text.now c.loop-index.index)) ∙ sym c.is_line_end.ensures ∙ c.if-is_line_end.false in
    line_more c.args.text.now c.loop-index.index c.loop-index-test.true e c.loop-index.invariant

pub returns : goal.returns
returns c = line_ends c.args.text.now c.loop-index.index (omega (arith, c.loop-index-test.false)) c.loop-index.invariant
