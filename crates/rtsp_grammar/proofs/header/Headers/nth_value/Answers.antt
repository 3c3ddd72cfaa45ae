use Rattle.std.proofs.Common.{sym, ◌∙◌}
use Rattle.rtsp_grammar.proofs.ValueLemmas.{values_named, values_other, place_behind}
use Rattle.rtsp_grammar.proofs.header.Headers.nth_value.Goals as goal
use Rattle.rtsp_grammar.proofs.header.Headers.nth_value.Goals.{then-is_named+else-left-eq0, else-is_named}

pub returns-then-left-eq0 : goal.returns-then-left-eq0
returns-then-left-eq0 c = rw (values_named _ _ _ _ c.get-header.ensures (sym c.is_named.ensures ∙ c.if-is_named.true), c.if-left-eq0.true) at c.loop-index.invariant

pub loop-index-preserved : goal.loop-index-preserved
loop-index-preserved c = elim c.if-is_named.branch [
  | then-is_named+else-left-eq0 w ↦ sym (place_behind _ _ _ _ w.if-left-eq0.false w.left-is) ∙ (rw (values_named _ _ _ _ c.get-header.ensures (sym c.is_named.ensures ∙ w.if-is_named.true)) at c.loop-index.invariant)
  | else-is_named w ↦ rw w.left-is (rw (values_other _ _ _ _ c.get-header.ensures (sym c.is_named.ensures ∙ w.if-is_named.false)) at c.loop-index.invariant)
]
