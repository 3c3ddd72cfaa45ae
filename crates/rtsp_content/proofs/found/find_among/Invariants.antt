use Rattle.std.proofs.Common.{◌≡◌, drop}
use Rattle.rtsp_content.specs.Paths.{find_from, elder}
use Rattle.rtsp_content.proofs.found.find_among.Given as goal

abbrev pub invariant-loop-index : goal.invariant-loop-index
invariant-loop-index l = find_from l.numbers 0 l.presentations l.path ≡ elder l.numbers l.found (find_from l.numbers l.index (drop l.index l.presentations) l.path)
