use Rattle.std.proofs.Common.{◌≡◌, ◌++◌, map, drop}
use Rattle.rtsp_guard.specs.Estranging.{estranged_header}
use Rattle.rtsp_guard.proofs.estranging.estranged_headers.Given as goal

abbrev pub invariant-loop-index : goal.invariant-loop-index
invariant-loop-index l = l.built.headers ++ map (estranged_header l.by) (drop l.index l.headers) ≡ map (estranged_header l.by) l.headers
