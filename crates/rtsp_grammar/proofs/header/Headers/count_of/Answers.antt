use Rattle.std.proofs.Common.{arith, ap, length, sym, ◌∙◌}
use Rattle.rtsp_grammar.proofs.ValueLemmas.{values_named, values_other}
use Rattle.rtsp_grammar.proofs.header.Headers.count_of.Goals as goal
use Rattle.rtsp_grammar.proofs.header.Headers.count_of.Goals.{then-is_named, else-is_named}

pub loop-index-preserved : goal.loop-index-preserved
loop-index-preserved c = let i = c.loop-index.invariant in elim c.if-is_named.branch [
  | then-is_named w ↦ (omega (arith, w.count-is, i.0), omega (arith, w.count-is, i.1, ap length (values_named c.args.name.now c.args.self.now c.loop-index.index _ c.get.ensures (sym c.is_named.ensures ∙ w.if-is_named.true))))
  | else-is_named w ↦ (omega (arith, w.count-is, i.0), omega (arith, w.count-is, i.1, ap length (values_other c.args.name.now c.args.self.now c.loop-index.index _ c.get.ensures (sym c.is_named.ensures ∙ w.if-is_named.false))))
]
