use Rattle.std.proofs.Common.{◌≡◌, drop}
use Rattle.std.specs.List.{list_any}
use Rattle.rtsp_dialect.specs.Repair.{needs_repair}
use Rattle.rtsp_dialect.proofs.request.any_needs_repair.Given as goal

abbrev pub invariant-loop-index : goal.invariant-loop-index
invariant-loop-index l = list_any needs_repair (drop l.index l.headers) ≡ list_any needs_repair l.headers
