-- The packets of a unit, by what they count from.
use Rattle.std.specs.Prelude.{ℕ, List}
use Rattle.rtsp_rtp.specs.declared.source.Source.{Source}
use Rattle.rtsp_rtp.specs.declared.parts_sent.UnitStart.{UnitStart}
use Rattle.rtsp_rtp.specs.Parts.{parts_of}
use Rattle.rtsp_rtp.specs.UnitPackets.{part_packets}

abbrev pub packets_from : Source → UnitStart → List ℕ → List (List ℕ)
packets_from x start unit = part_packets x start.number start.timestamp unit start.state (parts_of x.packing x.ticks unit).parts
