use Rattle.std.proofs.Common.{All}
use Rattle.rtsp_lock.specs.Calls.{IsSeatOf, SameSeat}
use Rattle.rtsp_book_trials.proofs.sleepers.seats_of.Given as goal

abbrev pub invariant-loop : goal.invariant-loop
invariant-loop g l = SameSeat l.initial.first l.first × All (λ s. IsSeatOf s l.lock) l.seats.items
