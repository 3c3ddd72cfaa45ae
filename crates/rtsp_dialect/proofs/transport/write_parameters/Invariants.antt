use Rattle.std.proofs.Common.{◌≡◌, ◌++◌, map}
use Rattle.rtsp_text.specs.Slices.{held}
use Rattle.rtsp_dialect.specs.ClientPortText.{repaired_part}
use Rattle.rtsp_transport.specs.Split.{parts_left}
use Rattle.rtsp_dialect.specs.PartText.{behind}
use Rattle.rtsp_transport.proofs.EachPart.{left_len}
use Rattle.rtsp_dialect.proofs.transport.write_parameters.Given as goal

abbrev pub invariant-parameters : goal.invariant-parameters
invariant-parameters l =
    l.out.items ++ behind 59 (map repaired_part (parts_left 59 (held l.left))) ≡ l.fn.out.items ++ behind 59 (map repaired_part (parts_left 59 (held l.fn.parameters)))

abbrev pub decreases-parameters : goal.decreases-parameters
decreases-parameters l = left_len (held l.left)
