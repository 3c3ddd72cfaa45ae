use Rattle.std.proofs.Common.{◌≡◌, ◌<◌, ◌+◌, ◌-◌, ◌∷◌, [], ◌++◌, sym, ap, ◌∙◌, inr, arith, List, ℕ, Ok}
use Rattle.std.proofs.lemmas.Result.{err_from_is_err_and}
use Rattle.std.proofs.lemmas.List.{append-nil}
use Rattle.rtsp_state.specs.declared.parameters.Parameter.{Parameter}
use Rattle.rtsp_state.specs.GetParameter.{parameter_of, parameters_in}
use Rattle.rtsp_state.proofs.ParameterLemmas.{onto, found_more, none_more, no_more, too_many, is_none, is_some_text}
use Rattle.rtsp_state.proofs.parameters.parameters_in.Goals as goal

pub returns-then-is_empty : goal.returns-then-is_empty
returns-then-is_empty c =
    let none = is_none c.loop-count.rest.now c.is_empty.result c.is_empty.ensures c.if-is_empty.true in
    sym c.loop-count.invariant ∙ ap (onto c.loop-count.found.items) (no_more (64 - c.loop-count.count) c.loop-count.rest.now none) ∙ ap Ok (append-nil c.loop-count.found.items)

pub returns-in_err-parameter_of : goal.returns-in_err-parameter_of
returns-in_err-parameter_of c =
    let p = err_from_is_err_and c.from_residual.result c.from_residual.ensures.1 in
    let some = is_some_text c.loop-count.rest.now c.is_empty.result c.is_empty.ensures c.if-is_empty.false in
    let line = ap (λ (q : List ℕ × List ℕ). q.0) c.first_line.ensures in
    let e = ap parameter_of (sym line) ∙ sym c.in_err-parameter_of.ensures in
    let lt : 0 < 64 - c.loop-count.count = omega (arith, c.loop-count-test.true) in
    rw (p.1, p.2) (inr (sym c.loop-count.invariant ∙ ap (onto c.loop-count.found.items) (none_more (64 - c.loop-count.count) c.loop-count.rest.now c.in_err-parameter_of.field-0.0 lt some e)))

pub loop-count-preserved : goal.loop-count-preserved
loop-count-preserved c =
    let some = is_some_text c.loop-count.rest.now c.is_empty.result c.is_empty.ensures c.if-is_empty.false in
    let line = ap (λ (q : List ℕ × List ℕ). q.0) c.first_line.ensures in
    let behind = ap (λ (q : List ℕ × List ℕ). q.1) c.first_line.ensures in
    let e = ap parameter_of (sym line) ∙ sym c.in_ok-parameter_of.ensures in
    let lt : 0 < 64 - c.loop-count.count = omega (arith, c.loop-count-test.true) in
    let num : 64 - (c.loop-count.count + 1) ≡ 64 - c.loop-count.count - 1 = omega arith in
    let found = c.loop-count.found.items ++ c.in_ok-parameter_of.field-0 ∷ [] in
    ap (λ (xs : List Parameter). onto xs (parameters_in (64 - (c.loop-count.count + 1)) c.first_line.result.1.now)) c.in_ok-push.ensures.items
    ∙ ap (λ (m : ℕ). onto found (parameters_in m c.first_line.result.1.now)) num
    ∙ ap (λ (t : List ℕ). onto found (parameters_in (64 - c.loop-count.count - 1) t)) behind
    ∙ found_more (64 - c.loop-count.count) c.args.body.now c.loop-count.rest.now c.loop-count.found.items c.in_ok-parameter_of.field-0 lt some e c.loop-count.invariant

pub returns-then-is_empty-2 : goal.returns-then-is_empty-2
returns-then-is_empty-2 c =
    let none = is_none c.loop-count.rest.now c.is_empty-2.result c.is_empty-2.ensures c.if-is_empty-2.true in
    sym c.loop-count.invariant ∙ ap (onto c.loop-count.found.items) (no_more (64 - c.loop-count.count) c.loop-count.rest.now none) ∙ ap Ok (append-nil c.loop-count.found.items)

pub returns-else-is_empty-2 : goal.returns-else-is_empty-2
returns-else-is_empty-2 c =
    let some = is_some_text c.loop-count.rest.now c.is_empty-2.result c.is_empty-2.ensures c.if-is_empty-2.false in
    let spent : 64 - c.loop-count.count ≡ 0 = omega (arith, c.loop-count-test.false) in
    inr (sym c.loop-count.invariant ∙ ap (onto c.loop-count.found.items) (ap (λ (k : ℕ). parameters_in k c.loop-count.rest.now) spent ∙ too_many c.loop-count.rest.now some))
