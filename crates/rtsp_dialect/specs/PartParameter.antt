-- What a parameter says, without where it is in memory.
use Rattle.rtsp_text.specs.Slices.{held}
use Rattle.rtsp_transport.specs.declared.spec.Parameter.{Parameter}
use Rattle.rtsp_dialect.specs.declared.client_port.PartParameter.{PartParameter}

abbrev pub shown : PartParameter → Parameter
shown p = record { name = p.name.now; value = held p.value }
