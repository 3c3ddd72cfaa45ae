use Rattle.std.proofs.Common.{◌<◌, length, arith}
use Rattle.std.proofs.lemmas.Bool.{false≢true}
use Rattle.rtsp_roster.proofs.Lining.{fits}
use Rattle.rtsp_roster.proofs.line.Line.put.Goals as goal

pub push_back_reserved-requires : goal.push_back_reserved-requires
push_back_reserved-requires c =
    let marks = c.self.inside.holds.items in
    let room = rw (← c.self.view_is) at c.room.ensures in
    let not_in = rw (← c.self.view_is) at c.if-not-is_in.ensures in
    let lt : c.args.key < length marks = omega (arith, c.if-key-room.true, room) in
    omega (arith, fits c.self.inside.keys.items marks c.args.key c.self.invariant.0 lt (λ q. false≢true (not_in.1 q)), c.self.invariant.1, c.self.inside.keys.ok.0)
