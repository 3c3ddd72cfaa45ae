use Rattle.std.proofs.lemmas.Grind.{common_steps}
use Rattle.std.proofs.lemmas.List.Sums.{sum_by-cons, sum_by-take-le}
use Rattle.std.proofs.Common.{◌≤◌, ap, arith}
use Rattle.rtsp_state.specs.Bounds.{stream_room, info_room}
use Rattle.rtsp_state.proofs.RoomLemmas.{streams_next, next_room}
use Rattle.rtsp_state.proofs.rtp_info.put_info_value.Goals as goal

pub put_next-requires : goal.put_next-requires
put_next-requires c =
    let whole = ap info_room c.in-Some.ensures.cases.0 in
    let split = sum_by-cons stream_room c.in-Some.first.now c.in-Some.others.now in
    let all : info_room c.in-Some.others.now ≤ c.put_stream.new.room.spare = omega (arith, whole, split, c.requires, c.put_stream.ensures.room.spare) in
    next_room c.in-Some.others.now c.loop-stream.stream-index c.stream-item.result c.put_stream.new.room.spare c.loop-stream.room.spare c.loop-stream-test.true c.stream-item.is all c.loop-stream.invariant.1.spare

pub loop-stream-preserved : goal.loop-stream-preserved
loop-stream-preserved c =
    let s = streams_next c.in-Some.others.now c.loop-stream.stream-index c.stream-item.result c.loop-stream-test.true c.stream-item.is in (
      grind (arith, common_steps),
      record {
        within = omega (arith, s, c.loop-stream.invariant.1.within, c.put_next.ensures.room.within);
        spare = omega (arith, s, c.loop-stream.invariant.1.spare, c.put_next.ensures.room.spare);
      },
    )

pub returns-clause-room : goal.returns-clause-room
returns-clause-room c =
    let whole = ap info_room c.in-Some.ensures.cases.0 in
    let split = sum_by-cons stream_room c.in-Some.first.now c.in-Some.others.now in
    let less = sum_by-take-le stream_room c.in-Some.others.now c.loop-stream.stream-index in
    record {
      within = omega (arith, whole, split, less, c.loop-stream.invariant.1.within, c.put_stream.ensures.room.within);
      spare = omega (arith, whole, split, less, c.loop-stream.invariant.1.spare, c.put_stream.ensures.room.spare);
    }
