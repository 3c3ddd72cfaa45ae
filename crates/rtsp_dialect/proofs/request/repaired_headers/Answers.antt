use Rattle.rtsp_dialect.specs.Repair.{repaired_header}
use Rattle.rtsp_dialect.proofs.HeaderSteps.{pushed_more}
use Rattle.rtsp_dialect.proofs.request.repaired_headers.Goals as goal

pub loop-index-preserved : goal.loop-index-preserved
loop-index-preserved c =
    pushed_more repaired_header c.args.headers.now c.loop-index.index _ c.loop-index.built.headers c.push_repaired.new.built.headers c.get.ensures c.in_ok-push_repaired.ensures c.loop-index.invariant
