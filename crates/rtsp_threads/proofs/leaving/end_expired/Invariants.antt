use Rattle.std.proofs.Common.{◌≡◌}
use Rattle.std.specs.Arc.{arc_value}
use Rattle.rtsp_book.specs.declared.steps.Step.TheVariants.{Expire}
use Rattle.rtsp_lock.specs.Calls.{SameSeat}
use Rattle.rtsp_admit.specs.Runs.{state_of}
use Rattle.rtsp_threads.specs.Leaving.{SweepsAll}
use Rattle.rtsp_threads.proofs.leaving.end_expired.Given as goal

abbrev pub invariant-loop : goal.invariant-loop
invariant-loop g l =
    SameSeat l.fn.handle.seat l.handle.seat
    × (arc_value l.handle.lock ≡ arc_value l.fn.handle.lock)
    × SweepsAll g.B.Binder.calls (Expire l.fn.now) (state_of l.fn.handle.seat l.fn.binder) (state_of l.handle.seat l.binder)
