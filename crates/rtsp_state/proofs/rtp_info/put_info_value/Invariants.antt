use Rattle.std.proofs.Common.{◌≡◌, ◌++◌, take}
use Rattle.std.specs.List.{flat_map}
use Rattle.rtsp_state.specs.Info.{next_stream_info}
use Rattle.rtsp_state.specs.Room.{Takes}
use Rattle.rtsp_state.specs.Bounds.{info_room}
use Rattle.rtsp_state.proofs.rtp_info.put_info_value.Given as goal

abbrev pub invariant-loop-stream : goal.invariant-loop-stream
invariant-loop-stream l = (l.room.text ≡ l.initial.room.text ++ flat_map (next_stream_info l.sent) (take l.stream-index l.others)) × Takes l.initial.room l.room (info_room (take l.stream-index l.others))
