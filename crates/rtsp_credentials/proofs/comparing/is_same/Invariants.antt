use Rattle.std.proofs.Common.{◌≡◌, ℕ, ◌<◌, get_or}
use Rattle.std.specs.Bool.{Decides}
use Rattle.rtsp_credentials.proofs.comparing.is_same.Given as goal

abbrev pub invariant-loop-i : goal.invariant-loop-i
invariant-loop-i l = Decides l.same ((k : ℕ) → k < l.i → get_or l.text k 0 ≡ get_or l.given k 0)
