use Rattle.std.proofs.Common.{◌≡◌, drop}
use Rattle.rtsp_state.specs.Play.{stream_of}
use Rattle.rtsp_state.proofs.play.stream_of.Given as goal

abbrev pub invariant-loop-stream : goal.invariant-loop-stream
invariant-loop-stream l = stream_of l.track (drop l.stream-index l.streams) ≡ stream_of l.track l.streams
