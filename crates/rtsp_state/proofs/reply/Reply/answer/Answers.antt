use Rattle.std.proofs.Common.{ap, arith}
use Rattle.rtsp_state.specs.Bounds.{reply_room}
use Rattle.rtsp_state.proofs.RoomLemmas.{takes_more}
use Rattle.rtsp_state.proofs.ReplyLemmas.{room_of_reply}
use Rattle.rtsp_state.proofs.reply.Reply.answer.Goals as goal

pub write_kind-requires : goal.write_kind-requires
write_kind-requires c = let l = room_of_reply c.self.inside.kind in let v = ap reply_room c.self.view_is in omega (arith, l, v, c.requires)

pub returns-clause-room : goal.returns-clause-room
returns-clause-room c = let l = room_of_reply c.self.inside.kind in let v = ap reply_room c.self.view_is in takes_more _ _ _ _ c.write_kind.ensures.room (omega (arith, l, v))
