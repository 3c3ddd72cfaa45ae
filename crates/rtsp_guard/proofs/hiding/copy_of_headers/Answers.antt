use Rattle.rtsp_guard.proofs.Absent.{copied_more}
use Rattle.rtsp_guard.proofs.hiding.copy_of_headers.Goals as goal

pub loop-index-preserved : goal.loop-index-preserved
loop-index-preserved c =
    copied_more c.args.headers.now c.loop-index.index _ c.loop-index.built.headers c.push_copy.new.built.headers c.get.ensures c.in_ok-push_copy.ensures c.loop-index.invariant
