use Rattle.std.proofs.Common.{◌≤◌, refl, arith}
use Rattle.rtsp_roster.proofs.Rostering.{inserted, roomier}
use Rattle.rtsp_roster.proofs.roster.Roster.place.Goals as goal

pub invariant_of-self : goal.invariant_of-self
invariant_of-self g c =
    let s = c.self.inside in
    roomier s.living s.living s.fresh s.again c.make_room.new.self s.again c.self.invariant (λ k. refl) c.make_room.ensures.keys refl c.make_room.ensures.more (omega arith)

pub invariant_of-self-then-not-make_room-2 : goal.invariant_of-self-then-not-make_room-2
invariant_of-self-then-not-make_room-2 g c =
    let s = c.self.inside in
    let second = c.make_room-else-not-make_room in
    roomier s.living s.living s.fresh s.again c.make_room.new.self second.new.self c.self.invariant (λ k. refl) c.make_room.ensures.keys second.ensures.keys c.make_room.ensures.more second.ensures.more

pub invariant_of-self-2 : goal.invariant_of-self-2
invariant_of-self-2 g c =
    let s = c.self.inside in
    let first = c.make_room in
    let second = c.make_room-else-not-make_room in
    inserted
    c.insert.result
    s.living
    c.insert.new.self
    s.fresh
    s.again
    first.new.self
    second.new.self
    c.args.value
    s.living.vacant_key
    c.self.invariant
    c.insert.ensures.updates
    c.insert.ensures.key
    c.insert.ensures.err
    first.ensures.keys
    second.ensures.keys
    first.ensures.more
    second.ensures.more
    (omega (arith, c.vacant_key-key.ensures.value, c.if-not-make_room.ensures.enough))
    (omega (arith, c.vacant_key-key.ensures.value, c.if-not-make_room-2.ensures.enough))
