use Rattle.std.proofs.Common.{◌≡◌, ◌++◌, map}
use Rattle.rtsp_text.specs.Slices.{held}
use Rattle.rtsp_dialect.specs.ClientPortText.{repaired_spec_text}
use Rattle.rtsp_transport.specs.Split.{parts_left}
use Rattle.rtsp_dialect.specs.PartText.{behind}
use Rattle.rtsp_transport.proofs.EachPart.{left_len}
use Rattle.rtsp_dialect.proofs.transport.write_others.Given as goal

abbrev pub invariant-specifications : goal.invariant-specifications
invariant-specifications l =
    l.out.items ++ behind 44 (map repaired_spec_text (parts_left 44 (held l.left))) ≡ l.fn.out.items ++ behind 44 (map repaired_spec_text (parts_left 44 (held l.fn.others)))

abbrev pub decreases-specifications : goal.decreases-specifications
decreases-specifications l = left_len (held l.left)
