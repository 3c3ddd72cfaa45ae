use Rattle.std.proofs.Common.{◌≡◌, ◌++◌, drop}
use Rattle.rtsp_guard.proofs.hiding.copy_of_headers.Given as goal

abbrev pub invariant-loop-index : goal.invariant-loop-index
invariant-loop-index l = l.built.headers ++ drop l.index l.headers ≡ l.headers
