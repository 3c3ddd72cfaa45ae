use Rattle.std.proofs.Common.{◌≡◌, ◌+◌, ◌≤◌, false, length}
use Rattle.rtsp_text.specs.Slices.{held}
use Rattle.rtsp_transport.specs.Split.{split, parts_left}
use Rattle.rtsp_transport.specs.TransportReading.{spec_of}
use Rattle.rtsp_transport.proofs.EachPart.{left_len, ReadsOn}
use Rattle.rtsp_transport.proofs.transports.transports_of.Given as goal

abbrev pub invariant-parts : goal.invariant-parts
invariant-parts l =
    ReadsOn spec_of (split false 44 l.text) (parts_left 44 (held l.left)) l.specs.items
    × (length l.specs.items + length (parts_left 44 (held l.left)) ≡ length (split false 44 l.text))
    × (length l.specs.items ≤ 16)

abbrev pub decreases-parts : goal.decreases-parts
decreases-parts l = left_len (held l.left)
