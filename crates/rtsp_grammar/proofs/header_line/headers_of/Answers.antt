use Rattle.std.proofs.Common.{inr, sym, ap, ◌∙◌, arith, Ok}
use Rattle.std.proofs.lemmas.Bool.{eqb-true}
use Rattle.std.proofs.lemmas.Result.{err_from_is_err_and}
use Rattle.rtsp_grammar.proofs.FoldLemmas.{too_many}
use Rattle.rtsp_grammar.proofs.HeaderLemmas.{nothing_folded, reading_starts, reading_goes_on, reading_breaks, reading_ends, starts_in_fold}
use Rattle.rtsp_grammar.proofs.ItemLemmas.{not_empty}
use Rattle.rtsp_grammar.proofs.header_line.headers_of.Goals as goal

pub returns-then-begins_blank : goal.returns-then-begins_blank
returns-then-begins_blank c = λ ls a counted. inr (starts_in_fold c.args.lines.now ls a (sym c.begins_blank.ensures ∙ c.if-begins_blank.true))

pub returns-then-count-gt-HEADER_LIMIT : goal.returns-then-count-gt-HEADER_LIMIT
returns-then-count-gt-HEADER_LIMIT c = λ ls a counted. inr (too_many ls (nothing_folded c.args.lines.now ls a (sym c.begins_blank.ensures ∙ c.if-begins_blank.false)) (omega (arith, counted)))

pub headers-init : goal.headers-init
headers-init c = λ ls a. reading_starts c.args.lines.now ls c.in_ok-headers.headers.headers a (sym c.begins_blank.ensures ∙ c.if-begins_blank.false) c.in_ok-headers.ensures.0

pub returns-in_err-left : goal.returns-in_err-left
returns-in_err-left c = λ ls a counted.
    let p = err_from_is_err_and c.from_residual-in_err-left.result c.from_residual-in_err-left.ensures.1 in
    let plain = nothing_folded c.args.lines.now ls a (sym c.begins_blank.ensures ∙ c.if-begins_blank.false) in
    rw (p.1, p.2) (reading_breaks ls c.headers.headers.headers c.next_header.new.headers.headers c.headers.left.now c.in_err-left.field-0.0 (c.headers.invariant ls a) (not_empty c.headers.left.now (sym c.headers-test.true ∙ c.is_empty.ensures)) c.in_err-left.ensures.reads plain (omega (arith, counted)))

pub headers-preserved : goal.headers-preserved
headers-preserved c = λ ls a.
    reading_goes_on ls c.headers.headers.headers c.next_header.new.headers.headers c.headers.left.now c.in_ok-left.left (c.headers.invariant ls a) (not_empty c.headers.left.now (sym c.headers-test.true ∙ c.is_empty.ensures)) c.in_ok-left.ensures.reads

pub returns : goal.returns
returns c = λ ls a counted.
    let plain = nothing_folded c.args.lines.now ls a (sym c.begins_blank.ensures ∙ c.if-begins_blank.false) in
    reading_ends ls c.headers.headers.headers c.headers.left.now (c.headers.invariant ls a) (eqb-true _ 0 (sym c.is_empty.ensures ∙ c.headers-test.false)) plain (omega (arith, counted)) ∙ ap Ok (sym c.into_headers.ensures)
