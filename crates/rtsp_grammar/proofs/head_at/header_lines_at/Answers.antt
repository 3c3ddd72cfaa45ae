use Rattle.std.proofs.Common.{◌≡◌, List, ℕ, ◌++◌, ◌∷◌, [], length, refl, sym, ap, ◌∙◌, arith, Option, Some, None}
use Rattle.std.specs.Prelude.{IfNone}
use Rattle.std.specs.Borrow.{Bor}
use Rattle.rtsp_grammar.specs.Item.{BeginsBlank}
use Rattle.rtsp_grammar.proofs.FoldLemmas.{folded_none, count_plain, count_fold}
use Rattle.rtsp_grammar.proofs.LinesLemmas.{first_some, one_line_more, rest_within}
use Rattle.rtsp_grammar.proofs.head_at.header_lines_at.Goals as goal

no_empty_line : (text : List ℕ) (found : Option (Bor (List ℕ))) → ((rest : Bor (List ℕ)) → found ≡ Some rest → ⊥) → IfNone found (¬ BeginsBlank text) → ¬ BeginsBlank text
no_empty_line text None not_some none = none
no_empty_line text (Some rest) not_some none = absurd (not_some rest refl)

pub lines-init : goal.lines-init
lines-init c = record {
  lines = [];
  begins = record { parts = refl; each = tt };
  counted = ap (λ (r : List ℕ × List (List ℕ)). length r.1) (sym folded_none);
  within = omega arith;
}

pub lines-preserved-then-not-begins_blank : goal.lines-preserved-then-not-begins_blank
lines-preserved-then-not-begins_blank c =
    let i = c.lines.invariant in
    let line : List ℕ = c.in-Ended.line.now in
    record {
      lines = i.lines ++ line ∷ [];
      begins = one_line_more c.args.bytes.now i.lines c.lines.left.now line c.in-Ended.rest.now i.begins c.in-Ended.ensures (first_some c.lines.left.now line c.in-Ended.rest.now (no_empty_line c.lines.left.now c.after_empty_line.result c.in_default.not-Some c.after_empty_line.ensures.none) c.in-Ended.ensures);
      counted = omega (arith, i.counted, count_plain i.lines line (sym c.begins_blank.ensures ∙ c.if-not-begins_blank.true));
      within = omega (arith, i.within, rest_within c.lines.left.now line c.in-Ended.rest.now c.in-Ended.ensures);
    }

pub lines-preserved : goal.lines-preserved
lines-preserved c =
    let i = c.lines.invariant in
    let line : List ℕ = c.in-Ended.line.now in
    record {
      lines = i.lines ++ line ∷ [];
      begins = one_line_more c.args.bytes.now i.lines c.lines.left.now line c.in-Ended.rest.now i.begins c.in-Ended.ensures (first_some c.lines.left.now line c.in-Ended.rest.now (no_empty_line c.lines.left.now c.after_empty_line.result c.in_default.not-Some c.after_empty_line.ensures.none) c.in-Ended.ensures);
      counted = i.counted ∙ sym (count_fold i.lines line (sym c.begins_blank.ensures ∙ c.if-not-begins_blank.false));
      within = omega (arith, i.within, rest_within c.lines.left.now line c.in-Ended.rest.now c.in-Ended.ensures);
    }
