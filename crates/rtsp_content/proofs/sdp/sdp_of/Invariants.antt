use Rattle.std.proofs.Common.{◌≡◌, ◌++◌, take}
use Rattle.std.specs.List.{flat_map}
use Rattle.rtsp_content.specs.Sdp.{session_text, track_text}
use Rattle.rtsp_content.proofs.sdp.sdp_of.Given as goal

abbrev pub invariant-loop-track : goal.invariant-loop-track
invariant-loop-track l = l.text.items ≡ session_text l.name l.length_ms ++ flat_map track_text (take l.track-index l.tracks)
