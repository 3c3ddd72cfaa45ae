use Rattle.rtsp_guard.specs.Estranging.{estranged_header}
use Rattle.rtsp_dialect.proofs.HeaderSteps.{pushed_more}
use Rattle.rtsp_guard.proofs.estranging.estranged_headers.Goals as goal

pub loop-index-preserved : goal.loop-index-preserved
loop-index-preserved c =
    pushed_more (estranged_header c.args.by) c.args.headers.now c.loop-index.index _ c.loop-index.built.headers c.push_estranged.new.built.headers c.get.ensures c.in_ok-push_estranged.ensures c.loop-index.invariant
