-- When the packets of a play are due.
use Rattle.std.proofs.Common.{◌≡◌, ℕ, ◌+◌, ◌-◌, ◌*◌, ◌/◌, ◌^◌, ◌<◌, ◌≤◌, min, true, length, refl, arith, Option, Some, None}
use Rattle.std.specs.Prelude.{SomeIff, IfSome, IfNone}
use Rattle.std.proofs.lemmas.Nat.{div_below, le-div, mul-le}
use Rattle.std.proofs.Math.Nat.{div-mul-le_self, lt-div-mul-add, min-le_left, min-le_right, le-min, add-mul}
use Rattle.std.proofs.Math.Arith.{lt_of_le-ne}
use Rattle.rtsp_record.specs.declared.phases.Phase.{Phase}
use Rattle.rtsp_record.specs.declared.phases.Phase.TheVariants.{Playing}
use Rattle.rtsp_record.specs.Moments.{due}
use Rattle.rtsp_record.specs.Rules.{is_playing}
use Rattle.rtsp_rtp.specs.Pacing.{Pacing, begun_at, units_in, packets_in, IsPacing}
use Rattle.rtsp_rtp.proofs.Scheduling.{right_pos}
use Rattle.rtsp_rtp.specs.Moments.{HasDue, IsNextDue, IsNeverDue}

-- the units that are due of a play
pub due_is : (p : Phase) (unit_ms m : ℕ) → due p unit_ms m ≡ min (units_in p) ((m - begun_at p) / unit_ms + 1)
due_is (Playing from stop sent since) unit_ms m = refl
due_is p unit_ms m = grind arith

-- no more are due than there are
pub due_most : (p : Phase) (unit_ms m : ℕ) → due p unit_ms m ≤ units_in p
due_most p unit_ms m = rw (due_is p unit_ms m) (min-le_left (units_in p) ((m - begun_at p) / unit_ms + 1))

-- a unit is due when its moment has come
pub due_from : (p : Phase) (unit_ms m u : ℕ) → 0 < unit_ms → u < units_in p → u * unit_ms ≤ m - begun_at p → u < due p unit_ms m
due_from p unit_ms m u some within passed =
    let by_now : u ≤ (m - begun_at p) / unit_ms = le-div u (m - begun_at p) unit_ms some passed in
    let least : u + 1 ≤ min (units_in p) ((m - begun_at p) / unit_ms + 1) = le-min (omega (arith, within)) (omega (arith, by_now)) in
    let enough : u + 1 ≤ due p unit_ms m = rw (due_is p unit_ms m) least in
    omega (arith, enough)

-- and only then
pub due_only : (p : Phase) (unit_ms m u : ℕ) → u < due p unit_ms m → u * unit_ms ≤ m - begun_at p
due_only p unit_ms m u is =
    let d = (m - begun_at p) / unit_ms in
    let capped : due p unit_ms m ≤ d + 1 = rw (due_is p unit_ms m) (min-le_right (units_in p) (d + 1)) in
    let rows : u * unit_ms ≤ d * unit_ms = mul-le u unit_ms d unit_ms (omega (arith, is, capped)) (omega arith) in
    omega (arith, rows, div-mul-le_self (m - begun_at p) unit_ms)

-- a play of which something is unsent, with its unit
pub record IsUnsent (p : Pacing) : Type 0 where
  pub playing : is_playing p.phase ≡ true
  pub unit : 0 < p.unit_ms
  pub some : 0 < length p.sources
  pub left : p.done < packets_in p

-- a play of which not all is sent
pub unsent : (p : Pacing) → IsPacing p → (p.done ≡ packets_in p → ⊥) → IsUnsent p
unsent p is not =
    let left : p.done < packets_in p = lt_of_le-ne is.sent not in
    record { playing = is.playing; unit = is.unit; some = right_pos p.done (units_in p.phase) (length p.sources) left; left = left }

-- when its unit has come, the next packet is due
has_from : (p : Pacing) (m : ℕ) → IsUnsent p → p.done / length p.sources * p.unit_ms ≤ m - begun_at p.phase → HasDue p m
has_from p m is passed =
    let k = length p.sources in
    let u = p.done / k in
    let below : u < units_in p.phase = div_below p.done k (units_in p.phase) is.some is.left in
    let enough : u < due p.phase p.unit_ms m = due_from p.phase p.unit_ms m u is.unit below passed in
    let rows : (u + 1) * k ≤ due p.phase p.unit_ms m * k = mul-le (u + 1) k (due p.phase p.unit_ms m) k (omega (arith, enough)) (omega arith) in
    let within : p.done < u * k + k = lt-div-mul-add is.some in
    omega (arith, rows, within, add-mul u 1 k)

-- and only then
has_only : (p : Pacing) (m : ℕ) → IsUnsent p → HasDue p m → p.done / length p.sources * p.unit_ms ≤ m - begun_at p.phase
has_only p m is has =
    due_only p.phase p.unit_ms m (p.done / length p.sources) (div_below p.done (length p.sources) (due p.phase p.unit_ms m) is.some has)

-- the moment of the next packet, where it can be told
pub next_is : (p : Pacing) (o : Option ℕ) (passed : ℕ) → IsUnsent p → passed ≡ p.done / length p.sources * p.unit_ms → SomeIff o (begun_at p.phase + passed < 2 ^ 64) (begun_at p.phase + passed) → IfSome o (IsNextDue p)
next_is p None passed is at found = tt
next_is p (Some m) passed is at found = record {
  begun = omega (arith, found.1);
  due = has_from p m is (omega (arith, found.1, at));
  first = λ n later has. let past = has_only p n is has in omega (arith, found.1, at, past, later);
}

-- it can't be told where it is beyond all moments
pub never_is : (p : Pacing) (o : Option ℕ) (passed : ℕ) → IsUnsent p → begun_at p.phase < 2 ^ 64 → passed ≡ p.done / length p.sources * p.unit_ms → SomeIff o (begun_at p.phase + passed < 2 ^ 64) (begun_at p.phase + passed) → IfNone o (IsNeverDue p)
never_is p None passed is began at found =
    λ m within has. let past = has_only p m is has in found (omega (arith, at, past, within, began))
never_is p (Some m) passed is began at found = tt

-- nothing is left
pub none_left : (p : Pacing) → p.done ≡ packets_in p → IsNeverDue p
none_left p all m within has =
    let rows = mul-le (due p.phase p.unit_ms m) (length p.sources) (units_in p.phase) (length p.sources) (due_most p.phase p.unit_ms m) (omega arith) in
    omega (arith, rows, has, all)
