-- A presentation, as its fields give it.
use Rattle.std.specs.Prelude.{string_bytes}
use Rattle.rtsp_content.specs.declared.presentation.Presentation.TheInside.{Inside}
use Rattle.rtsp_content.specs.PresentationValue.{PresentationValue}

abbrev pub presentation_value : Inside → PresentationValue
presentation_value p = record { name = string_bytes p.name; units = p.units; unit_ms = p.unit_ms; starts = p.starts; tracks = p.tracks.items }
