use Rattle.std.proofs.Common.{ap, arith}
use Rattle.rtsp_state.specs.Bounds.{reply_room}
use Rattle.rtsp_state.proofs.RoomLemmas.{reserved}
use Rattle.rtsp_state.proofs.ReplyLemmas.{room_of_reply}
use Rattle.rtsp_state.proofs.reply.Reply.make_room.Goals as goal

pub returns-clause-ok : goal.returns-clause-ok
returns-clause-ok c =
    let room = room_of_reply c.self.inside.kind in
    let reply = ap reply_room c.self.view_is in
    reserved _ _ _ _ (omega (arith, room, reply, c.open_size.ensures, c.saturating_add.ensures)) c.reserve.ensures.top c.reserve.ensures.ok
