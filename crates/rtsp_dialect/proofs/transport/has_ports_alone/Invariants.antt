use Rattle.std.proofs.Common.{◌≡◌}
use Rattle.rtsp_text.specs.Slices.{held}
use Rattle.rtsp_dialect.specs.ClientPort.{has_ports_alone}
use Rattle.rtsp_transport.specs.Split.{parts_left}
use Rattle.rtsp_dialect.proofs.Alone.{params, still}
use Rattle.rtsp_transport.proofs.EachPart.{left_len}
use Rattle.rtsp_dialect.proofs.transport.has_ports_alone.Given as goal

abbrev pub invariant-parameters : goal.invariant-parameters
invariant-parameters l = still l.found (params (parts_left 59 (held l.left))) ≡ has_ports_alone (params (parts_left 59 (held l.fn.parameters)))

abbrev pub decreases-parameters : goal.decreases-parameters
decreases-parameters l = left_len (held l.left)
