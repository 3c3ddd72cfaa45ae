use Rattle.rtsp_text.specs.Slices.{held}
use Rattle.rtsp_transport.specs.Split.{parts_left}
use Rattle.rtsp_dialect.proofs.Alone.{begins}
use Rattle.rtsp_dialect.proofs.transport.has_ports_alone.Goals as goal

pub parameters-init : goal.parameters-init
parameters-init c = begins (parts_left 59 (held c.args.parameters))
