-- The units of a range, by division.
use Rattle.std.proofs.Common.{◌≡◌, ℕ, ◌+◌, ◌*◌, ◌/◌, ◌<◌, ◌≤◌, Bool, true, false, cond, refl, sym, ap, ◌∙◌, arith, inl, inr, Option, Some, None, Result, Ok, Err, IfOk, IsErr, nat_le, min}
use Rattle.std.specs.Prelude.{◌||◌, ◌↔◌}
use Rattle.std.specs.Int.{div_ceil}
use Rattle.std.proofs.Math.Nat.{div-mul-le_self, lt-div-mul-add, lt_of_mul-lt-mul_left}
use Rattle.std.proofs.lemmas.Bool.{both_ways, leb-true, leb-false, le-leb}
use Rattle.std.proofs.lemmas.Grind.{div_ceil_times}
use Rattle.rtsp_npt.specs.declared.range.Range.{Range}
use Rattle.rtsp_npt.specs.declared.time.Time.{Time}
use Rattle.rtsp_npt.specs.declared.units.Span.{Span}
use Rattle.rtsp_npt.specs.declared.fault.OutOfMedia.{OutOfMedia}
use Rattle.rtsp_npt.specs.Units.{unit_nanos, HoldsTime, ReachTime, StartsAt, StopsAt, IsBackwards, IsOutOfMedia, TakesUnits, start_unit, stop_unit, is_backwards, units_of}

-- what n times is below n times another is below it
pub below_times : (n a b : ℕ) → a * n < b * n → a < b
below_times n a b h = lt_of_mul-lt-mul_left n (omega (arith, h))

pub holds_time : (unit_ms time : ℕ) → 0 < unit_ms → HoldsTime unit_ms time (time / unit_nanos unit_ms)
holds_time unit_ms time pos = record {
  begun = div-mul-le_self time (unit_nanos unit_ms);
  not_ended = let h : time < time / unit_nanos unit_ms * unit_nanos unit_ms + unit_nanos unit_ms = lt-div-mul-add (omega arith) in omega (arith, h);
}

-- one unit holds a time
pub one_holds : (unit_ms time a b : ℕ) → HoldsTime unit_ms time a → HoldsTime unit_ms time b → a ≡ b
one_holds unit_ms time a b x y =
    let p : a < b + 1 = below_times (unit_nanos unit_ms) a (b + 1) (omega (arith, x.begun, y.not_ended)) in
    let q : b < a + 1 = below_times (unit_nanos unit_ms) b (a + 1) (omega (arith, y.begun, x.not_ended)) in
    omega (arith, p, q)

pub reach_time : (unit_ms time : ℕ) → 0 < unit_ms → ReachTime unit_ms time (div_ceil time (unit_nanos unit_ms))
reach_time unit_ms time pos =
    let n = unit_nanos unit_ms in
    let h = div_ceil_times time n (omega arith) in
    record {
      reached = h.0;
      least = λ m le.
          let k : div_ceil time n < m + 1 = below_times n (div_ceil time n) (m + 1) (omega (arith, h.1, le)) in
          omega (arith, k);
    }

-- one number of units reaches a time and no less does
pub one_reach : (unit_ms time a b : ℕ) → ReachTime unit_ms time a → ReachTime unit_ms time b → a ≡ b
one_reach unit_ms time a b x y = omega (arith, x.least b y.reached, y.least a x.reached)

pub starts_at : (start : Option Time) (resume unit_ms : ℕ) → 0 < unit_ms → StartsAt start resume unit_ms (start_unit start resume unit_ms)
starts_at None resume unit_ms pos = refl
starts_at (Some start) resume unit_ms pos = holds_time unit_ms start.nanos pos

pub one_start : (start : Option Time) (resume unit_ms a b : ℕ) → StartsAt start resume unit_ms a → StartsAt start resume unit_ms b → a ≡ b
one_start None resume unit_ms a b x y = x ∙ sym y
one_start (Some start) resume unit_ms a b x y = one_holds unit_ms start.nanos a b x y

stops_at : (stop : Option Time) (unit_ms units : ℕ) → 0 < unit_ms → StopsAt stop unit_ms units (stop_unit stop unit_ms units)
stops_at None unit_ms units pos = refl
stops_at (Some stop) unit_ms units pos = (div_ceil stop.nanos (unit_nanos unit_ms), reach_time unit_ms stop.nanos pos, refl)

one_stop : (stop : Option Time) (unit_ms units a b : ℕ) → StopsAt stop unit_ms units a → StopsAt stop unit_ms units b → a ≡ b
one_stop None unit_ms units a b x y = x ∙ sym y
one_stop (Some stop) unit_ms units a b x y = x.2 ∙ ap (λ m. min m units) (one_reach unit_ms stop.nanos x.0 y.0 x.1 y.1) ∙ sym y.2

backwards : (start stop : Option Time) (resume unit_ms units : ℕ) → 0 < unit_ms → (is_backwards start stop resume (stop_unit stop unit_ms units) ≡ true) ↔ IsBackwards start stop resume unit_ms units
backwards start None resume unit_ms units pos = (λ e. absurd cc, λ h. absurd h)
backwards None (Some stop) resume unit_ms units pos =
    let at = stops_at (Some stop) unit_ms units pos in (
      λ e. (stop_unit (Some stop) unit_ms units, at, leb-true _ _ e),
      λ h. le-leb _ _ (let same = one_stop (Some stop) unit_ms units _ h.0 at h.1 in omega (arith, same, h.2)),
    )
backwards (Some start) (Some stop) resume unit_ms units pos = (λ e. leb-true stop.nanos start.nanos e, λ h. le-leb stop.nanos start.nanos h)

-- the two tests of a range
record Tests (range : Range) (resume unit_ms units : ℕ) (behind back : Bool) : Type 0 where
  pub behind_is : nat_le units (start_unit range.start resume unit_ms) ≡ behind
  pub back_is : is_backwards range.start range.stop resume (stop_unit range.stop unit_ms units) ≡ back

inside_then : (range : Range) (resume unit_ms units : ℕ) → 0 < unit_ms → Tests range resume unit_ms units false false → ¬ IsOutOfMedia range resume unit_ms units
inside_then range resume unit_ms units pos t (inl h) =
    let same = one_start range.start resume unit_ms h.0 (start_unit range.start resume unit_ms) h.1 (starts_at range.start resume unit_ms pos) in
    both_ways _ t.behind_is (le-leb _ _ (omega (arith, same, h.2)))
inside_then range resume unit_ms units pos t (inr h) = both_ways _ t.back_is ((backwards range.start range.stop resume unit_ms units pos).1 h)

units_within : (start stop : Option Time) (resume unit_ms units : ℕ) → 0 < unit_ms → start_unit start resume unit_ms < units → is_backwards start stop resume (stop_unit stop unit_ms units) ≡ false
    → (start_unit start resume unit_ms < stop_unit stop unit_ms units) × (stop_unit stop unit_ms units ≤ units)
units_within start None resume unit_ms units pos h e = (h, omega arith)
units_within None (Some stop) resume unit_ms units pos h e = let before = leb-false _ _ e in (omega (arith, before), omega arith)
units_within (Some start) (Some stop) resume unit_ms units pos h e =
    let before = leb-false _ _ e in
    let x = (holds_time unit_ms start.nanos pos).begun in
    let y = (reach_time unit_ms stop.nanos pos).reached in
    let k : start.nanos / unit_nanos unit_ms < div_ceil stop.nanos (unit_nanos unit_ms) = below_times (unit_nanos unit_ms) _ _ (omega (arith, x, y, before)) in
    (omega (arith, k, h), omega arith)

-- what the answer of `resolve` says of a range
abbrev pub Means : Range → ℕ → ℕ → ℕ → Result Span OutOfMedia → Type 0
Means range resume unit_ms units (Ok taken) = TakesUnits range resume unit_ms units taken.from taken.stop × (taken.from < taken.stop) × (taken.stop ≤ units)
Means range resume unit_ms units (Err _) = IsOutOfMedia range resume unit_ms units

pub units_mean : (range : Range) (resume unit_ms units : ℕ) → 0 < unit_ms → Means range resume unit_ms units (units_of range resume unit_ms units)
unfolding units_of
units_mean range resume unit_ms units pos = go (nat_le units from) (is_backwards range.start range.stop resume stop) (record { behind_is = refl; back_is = refl }) where
  from : ℕ
  from = start_unit range.start resume unit_ms

  stop : ℕ
  stop = stop_unit range.stop unit_ms units

  go : (a b : Bool) → Tests range resume unit_ms units a b → Means range resume unit_ms units (cond (a || b) (Err (record {})) (Ok (record { from = from; stop = stop })))
  go true b t = inl (from, starts_at range.start resume unit_ms pos, leb-true _ _ t.behind_is)
  go false true t = inr ((backwards range.start range.stop resume unit_ms units pos).0 t.back_is)
  go false false t =
      let within = units_within range.start range.stop resume unit_ms units pos (leb-false _ _ t.behind_is) t.back_is in
      (record { starts = starts_at range.start resume unit_ms pos; stops = stops_at range.stop unit_ms units pos; inside = inside_then range resume unit_ms units pos t }, within.0, within.1)

pub taken_units : (range : Range) (resume unit_ms units : ℕ) (answer : Result Span OutOfMedia) → Means range resume unit_ms units answer → IfOk answer (λ taken. TakesUnits range resume unit_ms units taken.from taken.stop)
taken_units range resume unit_ms units (Ok taken) h = h.0
taken_units range resume unit_ms units (Err outside) h = tt

pub taken_within : (range : Range) (resume unit_ms units : ℕ) (answer : Result Span OutOfMedia) → Means range resume unit_ms units answer → IfOk answer (λ taken. (taken.from < taken.stop) × (taken.stop ≤ units))
taken_within range resume unit_ms units (Ok taken) h = (h.1, h.2)
taken_within range resume unit_ms units (Err outside) h = tt

pub outside_media : (range : Range) (resume unit_ms units : ℕ) (answer : Result Span OutOfMedia) → Means range resume unit_ms units answer → IsErr answer ↔ IsOutOfMedia range resume unit_ms units
outside_media range resume unit_ms units (Ok taken) h = (λ e. absurd (both_ways false refl e), λ out. absurd (h.0.inside out))
outside_media range resume unit_ms units (Err outside) h = (λ _. h, λ _. refl)
