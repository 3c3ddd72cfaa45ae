-- What a play takes of what is free.
use Rattle.std.proofs.Common.{◌≤◌, ◌*◌, ◌/◌, ℕ, min, arith}
use Rattle.std.proofs.Math.Nat.{div-mul-le_self, mul-le-mul_right}

pub share_fits : (most left rate : ℕ) → min most (left / rate) * rate ≤ left
share_fits most left rate =
    let fewer : min most (left / rate) * rate ≤ left / rate * rate = mul-le-mul_right rate (omega arith) in
    omega (arith, fewer, div-mul-le_self left rate)
