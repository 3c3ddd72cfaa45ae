use Rattle.std.proofs.Common.{◌≡◌}
use Rattle.rtsp_lock.specs.Calls.{SameSeat, KnowsSame}
use Rattle.rtsp_lock.proofs.seat.BookSeat.try_for_a_while.Given as goal

abbrev pub invariant-loop : goal.invariant-loop
invariant-loop g l = SameSeat l.initial.self l.self × ((l.self.seat.me ≡ l.initial.self.seat.me) × KnowsSame l.initial.self l.self)
