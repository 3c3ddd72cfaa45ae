use Rattle.std.proofs.Common.{◌≡◌, ◌<◌, ℕ, length}
use Rattle.rtsp_content.specs.Numbers.{number_at}
use Rattle.rtsp_content.proofs.standing.numbers_of.Given as goal

abbrev pub invariant-loop-place : goal.invariant-loop-place
invariant-loop-place l = (length l.all.items ≡ l.place) × ((place : ℕ) → place < l.place → number_at l.all.items place ≡ number_at l.numbers place)
