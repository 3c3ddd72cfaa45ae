use Rattle.std.proofs.Common.{◌≡◌, List, length}
use Rattle.rtsp_record.specs.declared.changes.Record.{Record}
use Rattle.rtsp_lock.specs.Calls.{SameSeat}
use Rattle.rtsp_admit.specs.Runs.{state_of}
use Rattle.rtsp_expiry.specs.Sweeps.{Accepted, last_session}
use Rattle.rtsp_expiry.proofs.sweeping.act_all.Given as goal

abbrev pub invariant-loop-ended : goal.invariant-loop-ended
invariant-loop-ended g l = record {
  same : SameSeat l.fn.seat l.seat;
  made : List (List Record);
  accepted : Accepted g.B.Binder.calls l.step made (state_of l.fn.seat l.fn.binder) (state_of l.seat l.binder);
  count : l.ended ≡ length made;
  told : l.last ≡ last_session made;
}
