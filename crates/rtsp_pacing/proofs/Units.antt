-- Moments that are whole units apart.
use Rattle.std.proofs.Common.{◌≡◌, ◌<◌, ◌+◌, ◌-◌, ◌*◌, ◌/◌, ◌%◌, ℕ, ap, ◌∙◌, arith}
use Rattle.std.proofs.Math.Nat.{mul-mod_left, mod-eq-sub-div-mul, div-mul-le_self, mod-lt}

-- with what is missing to a whole unit, so much time is so many units
pub whole_units : (unit passed time : ℕ) → 0 < unit → time ≡ passed + (unit - passed % unit) → time % unit ≡ 0
whole_units unit passed time some is =
    let units = passed / unit in
    let one_more : (units + 1) * unit ≡ units * unit + unit = grind arith in
    let whole : time ≡ (units + 1) * unit = omega (arith, is, one_more, mod-eq-sub-div-mul passed unit, div-mul-le_self passed unit, mod-lt passed some) in
    ap (λ t. t % unit) whole ∙ mul-mod_left (units + 1) unit
