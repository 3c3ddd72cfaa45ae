use Rattle.std.proofs.Common.{◌≡◌, ◌++◌, drop}
use Rattle.rtsp_state.specs.Play.{rtp_info_from}
use Rattle.rtsp_state.proofs.play.rtp_info.Given as goal

abbrev pub invariant-loop-index : goal.invariant-loop-index
invariant-loop-index l = l.info ++ rtp_info_from l.base l.streams l.index (drop l.index l.tracks) ≡ rtp_info_from l.base l.streams 0 l.tracks
