use Rattle.rtsp_lock.specs.Calls.{IsSeatOf, SameSeat}
use Rattle.rtsp_book_trials.proofs.seats.said_at.Given as goal

abbrev pub invariant-loop-line : goal.invariant-loop-line
invariant-loop-line g l = IsSeatOf l.seat l.lock × SameSeat l.initial.seat l.seat
