use Rattle.rtsp_transport.proofs.PickingLemmas.{PicksOn}
use Rattle.rtsp_transport.proofs.transports.pick.Given as goal

abbrev pub invariant-loop-spec : goal.invariant-loop-spec
invariant-loop-spec l = PicksOn l.peer l.specs l.spec-index l.refusal
