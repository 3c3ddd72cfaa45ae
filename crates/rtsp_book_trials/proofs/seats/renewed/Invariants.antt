use Rattle.rtsp_lock.specs.Calls.{IsSeatOf, SameSeat}
use Rattle.rtsp_book_trials.proofs.seats.renewed.Given as goal

abbrev pub invariant-loop-turn : goal.invariant-loop-turn
invariant-loop-turn g l = IsSeatOf l.seat l.lock × SameSeat l.initial.seat l.seat
