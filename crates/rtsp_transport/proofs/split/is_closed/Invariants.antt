use Rattle.std.proofs.Common.{◌≡◌, false, drop}
use Rattle.rtsp_transport.specs.Split.{is_closed}
use Rattle.rtsp_transport.proofs.split.is_closed.Given as goal

abbrev pub invariant-loop-b : goal.invariant-loop-b
invariant-loop-b l = is_closed l.inside (drop l.b-index l.text) ≡ is_closed false l.text
