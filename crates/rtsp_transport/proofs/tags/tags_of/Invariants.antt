use Rattle.std.proofs.Common.{false}
use Rattle.rtsp_text.specs.Slices.{held}
use Rattle.rtsp_transport.specs.Split.{split, parts_left}
use Rattle.rtsp_transport.specs.Tags.{tag_of}
use Rattle.rtsp_transport.proofs.EachPart.{left_len, ReadsOn}
use Rattle.rtsp_transport.proofs.tags.tags_of.Given as goal

abbrev pub invariant-parts : goal.invariant-parts
invariant-parts l = ReadsOn tag_of (split false 44 l.text) (parts_left 44 (held l.left)) l.tags.items

abbrev pub decreases-parts : goal.decreases-parts
decreases-parts l = left_len (held l.left)
