use Rattle.std.proofs.Common.{◌≡◌, ℕ, ◌<◌, ◌≤◌, true, get_or, length}
use Rattle.rtsp_text.specs.Bytes.{is_blank}
use Rattle.rtsp_text.proofs.trim.trim_end.Given as goal

abbrev pub invariant-back : goal.invariant-back
invariant-back l = (l.end ≤ length l.text) × ((k : ℕ) → l.end ≤ k → k < length l.text → is_blank (get_or l.text k 0) ≡ true)

abbrev pub decreases-back : goal.decreases-back
decreases-back l = l.end
