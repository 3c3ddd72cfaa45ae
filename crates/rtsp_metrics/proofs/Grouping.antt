-- Numbers with commas.
use Rattle.std.proofs.Common.{◌≡◌, ℕ, zero, suc, ◌-◌, ◌<◌, ◌≤◌, ◌/◌, ◌%◌, ◌++◌, codes, decimal, refl, arith, sub-one}
use Rattle.std.proofs.lemmas.Bool.Decides.{nat_tests}
use Rattle.rtsp_text.specs.Decimal.{three_digits}
use Rattle.rtsp_metrics.specs.Page.{groups}

-- a number of at most three digits has no comma, and none where none may come
pub groups_decimal : (more n : ℕ) → (0 < more → n < 1000) → groups more n ≡ decimal n
unfolding groups
groups_decimal zero n small = refl
groups_decimal (suc more) n small = let lt : n < 1000 = small (omega arith) in grind (arith, nat_tests)

-- a longer number has one before its last three digits
pub groups_large : (more n : ℕ) → 0 < more → 1000 ≤ n → groups more n ≡ groups (more - 1) (n / 1000) ++ (codes "," ++ three_digits (n % 1000))
unfolding groups
groups_large zero n some large = absurd (omega arith)
groups_large (suc more) n some large = rw sub-one (grind (arith, nat_tests))
