use Rattle.std.proofs.Common.{◌≤◌, ℕ, refl, arith}
use Rattle.rtsp_roster.proofs.Rostering.{fewer, first_fewer, first_room}
use Rattle.rtsp_roster.proofs.roster.Roster.next_ready.Goals as goal

pub invariant_of-self : goal.invariant_of-self
invariant_of-self g c =
    let s = c.self.inside in
    let new = c.take.new.self in
    fewer s.living s.fresh s.again s.fresh new c.self.invariant refl (first_room s.again c.take.result new c.take.ensures) (λ q. omega arith) (first_fewer s.again c.take.result new c.take.ensures)

pub invariant_of-self-2 : goal.invariant_of-self-2
invariant_of-self-2 g c =
    let s = c.self.inside in
    let new = c.take-2.new.self in
    fewer s.living s.fresh s.again new s.again c.self.invariant (first_room s.fresh c.take-2.result new c.take-2.ensures) refl (first_fewer s.fresh c.take-2.result new c.take-2.ensures) (λ q. omega arith)
