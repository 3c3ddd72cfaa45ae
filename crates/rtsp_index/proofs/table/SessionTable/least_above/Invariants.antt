use Rattle.std.proofs.Common.{◌≡◌, take}
use Rattle.std.specs.FinMap.{entries}
use Rattle.rtsp_sessions.specs.Lookups.{numbers_above}
use Rattle.rtsp_index.specs.Contents.{sessions_of_first}
use Rattle.rtsp_index.proofs.table.SessionTable.least_above.Given as goal

abbrev pub invariant-loop-index : goal.invariant-loop-index
invariant-loop-index l = l.found ≡ take 256 (numbers_above l.above (entries (sessions_of_first l.self l.index)))
