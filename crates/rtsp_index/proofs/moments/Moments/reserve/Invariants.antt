use Rattle.std.proofs.Common.{◌≡◌, ◌<◌, ℕ}
use Rattle.rtsp_index.specs.Dating.{moment_at}
use Rattle.rtsp_index.proofs.moments.Moments.reserve.Given as goal

abbrev pub invariant-loop-place : goal.invariant-loop-place
invariant-loop-place l =
    record {
      places : l.wider.places ≡ l.places;
      same : (p : ℕ) → p < l.place → moment_at l.wider p ≡ moment_at l.self p;
    }
