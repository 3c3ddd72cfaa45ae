use Rattle.std.proofs.Common.{◌≡◌, ℕ, ◌+◌, ◌-◌, ◌*◌, ◌^◌, ◌<◌, ◌≤◌, length, ap, sym, ◌∙◌, subst, arith, lit<}
use Rattle.std.proofs.Math.Nat.{mul-lt-mul_of_pos_right, one-le-pow}
use Rattle.std.proofs.lemmas.Nat.{pow-add}
use Rattle.rtsp_npt.proofs.time.fraction.Goals as goal

-- k digits with zeros behind them, nine in all
small : (n k : ℕ) → k ≤ 9 → n < 10 ^ k → n * 10 ^ (9 - k) < 10 ^ 9
small n k le lt =
    let nine : k + (9 - k) ≡ 9 = omega arith in
    let h : n * 10 ^ (9 - k) < 10 ^ k * 10 ^ (9 - k) = mul-lt-mul_of_pos_right lt (one-le-pow (9 - k) 10 (lit< tt)) in
    let e : 10 ^ k * 10 ^ (9 - k) ≡ 10 ^ 9 = sym (pow-add 10 k (9 - k)) ∙ ap (λ (m : ℕ). 10 ^ m) nine in
    subst (λ (m : ℕ). n * 10 ^ (9 - k) < m) e h

pub returns-clause-small : goal.returns-clause-small
returns-clause-small c = rw c.pow.ensures (small c.in_ok-digits.digits (length c.args.text.now) c.if-text-gt-FRACTION_DIGITS.false c.in_ok-digits.ensures.small)
