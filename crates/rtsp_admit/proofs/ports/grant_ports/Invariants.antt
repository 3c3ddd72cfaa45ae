use Rattle.std.proofs.Common.{◌≡◌, ℕ, ◌-◌, ◌^◌, List}
use Rattle.rtsp_lock.specs.Calls.{SameSeat, seat_view}
use Rattle.rtsp_admit.specs.Runs.{Tried, state_of}
use Rattle.rtsp_admit.proofs.ports.grant_ports.Given as goal

abbrev pub invariant-loop-first : goal.invariant-loop-first
invariant-loop-first g l = record {
  same : SameSeat l.fn.seat l.seat;
  drawn : (seat_view l.seat).drawn ≡ (seat_view l.fn.seat).drawn;
  tried : List ℕ;
  tries : Tried g.B.Binder.calls l.ask l.kind tried l.from (state_of l.fn.seat l.fn.binder) (state_of l.seat l.binder);
}

-- each try is for ports above those before
abbrev pub decreases-loop-first : goal.decreases-loop-first
decreases-loop-first g l = 2 ^ 32 - l.from
