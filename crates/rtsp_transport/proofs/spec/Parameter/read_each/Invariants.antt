use Rattle.rtsp_text.specs.Slices.{held}
use Rattle.rtsp_transport.specs.Split.{parts_left}
use Rattle.rtsp_transport.specs.TransportReading.{parameter_of}
use Rattle.rtsp_transport.proofs.EachPart.{left_len, ReadsOn}
use Rattle.rtsp_transport.proofs.spec.Parameter.read_each.Given as goal

abbrev pub invariant-parts : goal.invariant-parts
invariant-parts l = ReadsOn parameter_of (parts_left 59 (held l.fn.parts)) (parts_left 59 (held l.left)) l.parameters

abbrev pub decreases-parts : goal.decreases-parts
decreases-parts l = left_len (held l.left)
