use Rattle.std.proofs.Common.{◌≡◌, ℕ, true, length}
use Rattle.rtsp_content.specs.Growing.{is_free}
use Rattle.rtsp_content.specs.Withdrawn.{is_withdrawn}
use Rattle.rtsp_content.proofs.growing.givable.Given as goal

abbrev pub invariant-loop-place : goal.invariant-loop-place
invariant-loop-place l = (length l.givable.items ≡ l.place)
    × ((place : ℕ) → is_free l.givable.items place ≡ true → (is_free l.free place ≡ true) × (is_withdrawn l.table.withdrawn place ≡ true))
