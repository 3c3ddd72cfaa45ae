use Rattle.std.proofs.Common.{arith}
use Rattle.rtsp_state.proofs.RoomLemmas.{streams_next}
use Rattle.rtsp_state.proofs.rtp_info.info_size.Goals as goal

pub loop-stream-preserved : goal.loop-stream-preserved
loop-stream-preserved c =
    let s = streams_next c.args.streams.now c.loop-stream.stream-index c.stream-item.result c.loop-stream-test.true c.stream-item.is in
    omega (arith, s, c.loop-stream.invariant, c.stream_size.ensures, c.saturating_add-total.ensures)
