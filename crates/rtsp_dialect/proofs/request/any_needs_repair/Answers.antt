use Rattle.std.proofs.Common.{sym, ◌∙◌}
use Rattle.rtsp_dialect.specs.Repair.{needs_repair}
use Rattle.rtsp_dialect.proofs.HeaderSteps.{needs_here, needs_behind}
use Rattle.rtsp_dialect.proofs.request.any_needs_repair.Goals as goal
use Rattle.rtsp_dialect.proofs.request.any_needs_repair.Goals.{else-is_as_long-via-then-is_as_long+else-needs_repair, else-is_as_long-via-else-is_as_long}

pub returns-then-needs_repair : goal.returns-then-needs_repair
returns-then-needs_repair c = needs_here needs_repair c.args.headers.now c.loop-index.index _ c.get-header.ensures (sym c.needs_repair.ensures ∙ c.if-needs_repair.true) c.loop-index.invariant

pub loop-index-preserved : goal.loop-index-preserved
loop-index-preserved c =
    needs_behind needs_repair c.args.headers.now c.loop-index.index _ c.get-header.ensures
    (elim c.else-is_as_long.branch [
      | else-is_as_long-via-then-is_as_long+else-needs_repair w ↦ sym w.needs_repair.ensures ∙ w.if-needs_repair.false
      | else-is_as_long-via-else-is_as_long w ↦ c.is_as_long.ensures w.if-is_as_long.false
    ])
    c.loop-index.invariant
