use Rattle.std.proofs.Common.{◌≡◌, ◌-◌, ◌^◌, take}
use Rattle.std.specs.Prelude.{min}
use Rattle.rtsp_state.specs.Bounds.{info_room}
use Rattle.rtsp_state.proofs.rtp_info.info_size.Given as goal

abbrev pub invariant-loop-stream : goal.invariant-loop-stream
invariant-loop-stream l = l.total ≡ min (info_room (take l.stream-index l.streams)) (2 ^ 64 - 1)
