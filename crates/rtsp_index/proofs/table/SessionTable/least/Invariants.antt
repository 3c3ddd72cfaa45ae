use Rattle.rtsp_index.specs.Contents.{sessions_in}
use Rattle.rtsp_index.specs.Searching.{passes, IsLeastOf}
use Rattle.rtsp_index.proofs.table.SessionTable.least.Given as goal

abbrev pub invariant-loop-index : goal.invariant-loop-index
invariant-loop-index l = IsLeastOf (passes l.search) (sessions_in l.self) l.self.places.entries l.index l.least
