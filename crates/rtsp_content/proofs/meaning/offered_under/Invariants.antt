use Rattle.std.proofs.Common.{◌≡◌, drop}
use Rattle.rtsp_content.specs.Offering.{offered_from}
use Rattle.rtsp_content.proofs.meaning.offered_under.Given as goal

abbrev pub invariant-loop-index : goal.invariant-loop-index
invariant-loop-index l = offered_from 0 l.presentations l.withdrawn l.name ≡ offered_from l.index (drop l.index l.presentations) l.withdrawn l.name
