use Rattle.std.proofs.Common.{◌≡◌, ◌++◌, map, drop}
use Rattle.rtsp_dialect.specs.Repair.{repaired_header}
use Rattle.rtsp_dialect.proofs.request.repaired_headers.Given as goal

abbrev pub invariant-loop-index : goal.invariant-loop-index
invariant-loop-index l = l.built.headers ++ map repaired_header (drop l.index l.headers) ≡ map repaired_header l.headers
