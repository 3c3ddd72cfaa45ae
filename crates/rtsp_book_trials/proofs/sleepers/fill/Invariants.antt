use Rattle.rtsp_lock.specs.Calls.{IsSeatOf}
use Rattle.rtsp_book_trials.proofs.sleepers.fill.Given as goal

abbrev pub invariant-loop : goal.invariant-loop
invariant-loop g l = IsSeatOf l.seat l.lock
