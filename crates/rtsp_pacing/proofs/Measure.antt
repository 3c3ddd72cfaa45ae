-- How much of a play is due at once.
use Rattle.std.proofs.Common.{◌≡◌, ◌≤◌, ◌<◌, ◌+◌, ◌-◌, ◌*◌, ◌/◌, ℕ, min, max, subst, arith}
use Rattle.std.proofs.Math.Nat.{div-mul-le_self, mul-le-mul_right}
use Rattle.rtsp_record.specs.declared.phases.Phase.{Phase}
use Rattle.rtsp_record.specs.declared.phases.Phase.TheVariants.{Ready, Playing, Ended}
use Rattle.rtsp_record.specs.Moments.{due}
use Rattle.rtsp_rtp.specs.Pacing.{begun_at}
use Rattle.rtsp_pacing.specs.Catching.{IsMeasured, most_at_once}

playing : (unit_ms since unit passed moment left : ℕ) → moment + unit_ms ≤ since + unit * unit_ms + most_at_once unit_ms passed
    → min left ((moment - since) / unit_ms + 1) * unit_ms ≤ unit * unit_ms + most_at_once unit_ms passed
playing unit_ms since unit passed moment left least =
    let units = (moment - since) / unit_ms in
    let fewer : min left (units + 1) * unit_ms ≤ (units + 1) * unit_ms = mul-le-mul_right unit_ms (omega arith) in
    let last : (units + 1) * unit_ms ≡ units * unit_ms + unit_ms = grind arith in
    omega (arith, fewer, last, div-mul-le_self (moment - since) unit_ms, least)

pub is_measured : (unit_ms first passed moment : ℕ) → moment + unit_ms ≤ first + most_at_once unit_ms passed → IsMeasured unit_ms first passed moment
is_measured unit_ms first passed moment least (Ready at sent) unit e = omega arith
is_measured unit_ms first passed moment least (Playing from stop sent since) unit e = playing unit_ms since unit passed moment (stop - from) (subst (λ n. moment + unit_ms ≤ n + most_at_once unit_ms passed) e least)
is_measured unit_ms first passed moment least (Ended at sent) unit e = omega arith
