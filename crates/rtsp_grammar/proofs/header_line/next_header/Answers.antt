use Rattle.std.proofs.Common.{List, ℕ, ◌++◌, subst, sym, ap, ◌∙◌, arith}
use Rattle.std.proofs.lemmas.Result.{err_from_is_err_and}
use Rattle.rtsp_grammar.specs.HeaderSteps.{Unfolds}
use Rattle.rtsp_grammar.specs.Reading.{header_of, folded}
use Rattle.rtsp_grammar.proofs.FoldLemmas.{line_alone, line_joined}
use Rattle.rtsp_grammar.proofs.HeaderLemmas.{not_read}
use Rattle.rtsp_grammar.proofs.LinesLemmas.{split_shorter}
use Rattle.rtsp_grammar.proofs.header_line.next_header.Goals as goal

pub returns-in_err-push_line-clause-reads : goal.returns-in_err-push_line-clause-reads
returns-in_err-push_line-clause-reads c = λ l ls a.
    let p = err_from_is_err_and c.from_residual.result c.from_residual.ensures.1 in
    let s = line_alone c.args.lines.now c.split_line.result.0.now c.split_line.result.1.now l ls c.split_line.ensures a (sym c.begins_blank.ensures ∙ c.if-not-begins_blank.true) in
    rw (p.1, p.2) (not_read (header_of c.split_line.result.0.now) (header_of (l ++ (folded ls).0)) c.in_err-push_line.field-0.0 (ap header_of s.0) c.in_err-push_line.ensures, tt)

pub returns-then-not-begins_blank-clause-reads : goal.returns-then-not-begins_blank-clause-reads
returns-then-not-begins_blank-clause-reads c = λ l ls a.
    let s = line_alone c.args.lines.now c.split_line.result.0.now c.split_line.result.1.now l ls c.split_line.ensures a (sym c.begins_blank.ensures ∙ c.if-not-begins_blank.true) in
    let h = c.in_ok-push_line.ensures in
    ((h.0, ap header_of (sym s.0) ∙ h.1, h.2), s.1)

pub returns-then-not-begins_blank-clause-shorter : goal.returns-then-not-begins_blank-clause-shorter
returns-then-not-begins_blank-clause-shorter c = split_shorter c.args.lines.now c.split_line.result.0.now c.split_line.result.1.now c.split_line.ensures c.requires

pub returns-in_err-push_line-2-clause-reads : goal.returns-in_err-push_line-2-clause-reads
returns-in_err-push_line-2-clause-reads c = λ l ls a.
    let p = err_from_is_err_and c.from_residual-in_err-push_line-2.result c.from_residual-in_err-push_line-2.ensures.1 in
    let text = c.deref.ensures.value in
    let joined = c.in_ok-extend_from_slice.ensures.items ∙ ap (λ (t : List ℕ). t ++ c.split_line.result.0.now) c.clear.ensures.items in
    let s = line_joined c.args.lines.now c.split_line.result.0.now c.split_line.result.1.now l c.unfold.new.line.items c.in_ok-rest.rest.now ls c.split_line.ensures a
    (λ others. subst (λ (t : List ℕ). Unfolds t c.unfold.new.line.items ls c.in_ok-rest.rest.now) joined (c.in_ok-rest.ensures.unfolds ls others)) in
    rw (p.1, p.2) (not_read (header_of c.deref.result.now) (header_of (l ++ (folded ls).0)) c.in_err-push_line-2.field-0.0 (ap header_of (text ∙ s.0)) c.in_err-push_line-2.ensures, tt)

pub returns-clause-reads : goal.returns-clause-reads
returns-clause-reads c = λ l ls a.
    let joined = c.in_ok-extend_from_slice.ensures.items ∙ ap (λ (t : List ℕ). t ++ c.split_line.result.0.now) c.clear.ensures.items in
    let s = line_joined c.args.lines.now c.split_line.result.0.now c.split_line.result.1.now l c.unfold.new.line.items c.in_ok-rest.rest.now ls c.split_line.ensures a
    (λ others. subst (λ (t : List ℕ). Unfolds t c.unfold.new.line.items ls c.in_ok-rest.rest.now) joined (c.in_ok-rest.ensures.unfolds ls others)) in
    let h = c.in_ok-push_line-2.ensures in
    ((h.0, ap header_of (sym (c.deref.ensures.value ∙ s.0)) ∙ h.1, h.2), s.1)

pub returns-clause-shorter : goal.returns-clause-shorter
returns-clause-shorter c = omega (arith, c.in_ok-rest.ensures.shorter, split_shorter c.args.lines.now c.split_line.result.0.now c.split_line.result.1.now c.split_line.ensures c.requires)
