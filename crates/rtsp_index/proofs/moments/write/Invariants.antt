use Rattle.std.proofs.Common.{◌≡◌, ◌≢◌, ℕ, ◌+◌, get_or}
use Rattle.rtsp_index.proofs.LesserLemmas.{AreWritten}
use Rattle.rtsp_index.proofs.moments.write.Given as goal

abbrev pub invariant-up : goal.invariant-up
invariant-up l =
    record {
      written : AreWritten l.places l.least.items l.below;
      here : get_or l.least.items (l.places + l.place) 0 ≡ l.moment;
      others : (p : ℕ) → p ≢ l.place → get_or l.least.items (l.places + p) 0 ≡ get_or l.fn.least.items (l.places + p) 0;
    }

abbrev pub decreases-up : goal.decreases-up
decreases-up l = l.below
