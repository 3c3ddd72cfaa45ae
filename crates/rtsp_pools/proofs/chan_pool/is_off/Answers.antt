use Rattle.std.proofs.Common.{◌≡◌, ◌==◌, ℕ, ◌≤◌, true, sym, ap, ◌∙◌, arith}
use Rattle.std.specs.Prelude.{nat_le}
use Rattle.std.proofs.lemmas.Bool.Decides.{nat_tests}
use Rattle.std.proofs.lemmas.Nat.Bits.{bit_at_above}
use Rattle.rtsp_pools.proofs.chan_pool.is_off.Goals as goal

is_past : (n : ℕ) → 128 ≤ n → nat_le 128 n ≡ true
is_past n h = grind (arith, nat_tests)

pub returns-then-place-ge128 : goal.returns-then-place-ge128
returns-then-place-ge128 c =
    let past = c.if-place-ge128.true in
    is_past c.args.place past ∙ ap (λ n. n == 0) (sym (bit_at_above c.args.bits 128 c.args.place c.ranges.bits.fits past))
