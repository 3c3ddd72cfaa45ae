use Rattle.std.proofs.Common.{◌≡◌}
use Rattle.std.specs.List.{list_any}
use Rattle.rtsp_text.specs.Slices.{held}
use Rattle.rtsp_dialect.specs.ClientPortText.{is_old_text, has_old}
use Rattle.rtsp_transport.specs.Split.{parts_left}
use Rattle.rtsp_transport.proofs.EachPart.{left_len}
use Rattle.rtsp_dialect.proofs.transport.has_old.Given as goal

abbrev pub invariant-specifications : goal.invariant-specifications
invariant-specifications l = list_any is_old_text (parts_left 44 (held l.left)) ≡ has_old l.value

abbrev pub decreases-specifications : goal.decreases-specifications
decreases-specifications l = left_len (held l.left)
