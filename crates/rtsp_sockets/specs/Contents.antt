-- What a thread sees of content that goes on.
use Rattle.std.specs.Prelude.{◌≡◌, ◌⊎◌}
use Rattle.std.specs.Arc.{arc_value}
use Rattle.rtsp_content.specs.Growing.{Extends}
use Rattle.rtsp_sockets.specs.declared.contents.Seen.{Seen}

-- it is the same, or has at each place what it had, unless the place was given to another
abbrev pub SeesOn : Seen → Seen → Type 0
SeesOn old new = (new ≡ old) ⊎ Extends (arc_value old.content).table (arc_value new.content).table
