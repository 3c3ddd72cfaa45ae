-- What is printed is spelled.
use Rattle.std.proofs.Common.{◌≡◌, ℕ, ◌+◌, ◌*◌, ◌/◌, ◌%◌, ◌^◌, ◌<◌, [], Some, refl, sym, subst, arith, inl, inr, lit<, lit≤}
use Rattle.std.specs.Prelude.{codes, decimal}
use Rattle.std.specs.Char.{digit_value}
use Rattle.std.proofs.Math.Nat.{div-div-eq-div-mul, mul-lt-mul_of_pos_right}
use Rattle.std.proofs.lemmas.Bool.Decides.{nat_tests}
use Rattle.std.proofs.lemmas.Fmt.{decimal_is_IsNumeral_wide, length-decimal-le_wide}
use Rattle.rtsp_npt.specs.Times.{SpellsFraction, SpellsTime}
use Rattle.rtsp_text.specs.Decimal.{SpellsNumber, digit, three_digits}
use Rattle.rtsp_npt.specs.Units.{unit_nanos, HoldsTime, ReachTime, IsOutOfMedia}
use Rattle.rtsp_npt.specs.Printed.{millis_text, time_text}
use Rattle.rtsp_npt.specs.Laws.{unit_time, unit_range, TimeReadsBack, RangeReadsBack, StopReadsBack, UnitsStay}
use Rattle.rtsp_npt.proofs.UnitLemmas.{below_times, one_start}

-- ---- times

digit_below : (d : ℕ) → d < 10 → digit_value (48 + d) ≡ d
digit_below d small = grind (arith, nat_tests)

digit_back : (n : ℕ) → digit_value (digit n) ≡ n % 10
digit_back n = digit_below (n % 10) (omega arith)

seconds_spelled : (n : ℕ) → n < 10 ^ 19 → SpellsNumber 19 (decimal n) n
seconds_spelled n small =
    let wide : n < 10 ^ 64 = omega arith in
    let h = decimal_is_IsNumeral_wide n wide in
    record { digits = h.0; few = length-decimal-le_wide 19 n (lit< tt) small wide; value = sym h.1 }

-- three digits
three_spelled : (n : ℕ) → SpellsFraction (three_digits n) ((n / 100 % 10 * 100 + n / 10 % 10 * 10 + n % 10) * 1000000)
three_spelled n =
    let p = digit_back (n / 100) in
    let q = digit_back (n / 10) in
    let r = digit_back n in
    record {
      digits = (omega (arith, p), (omega (arith, q), (omega (arith, r), tt)));
      few = lit≤ tt;
      value = rw (p, q, r) (omega arith);
    }

decimals : (ms : ℕ) → (ms / 100 % 10) * 100 + (ms / 10 % 10) * 10 + ms % 10 ≡ ms % 1000
decimals ms =
    let tens = div-div-eq-div-mul ms 10 10 in
    let hundreds = div-div-eq-div-mul ms 100 10 in
    omega (arith, tens, hundreds)

pub millis_spelled : (ms : ℕ) → ms < 10 ^ 22 → SpellsTime (millis_text ms) (ms * 1000000)
unfolding millis_text
millis_spelled ms small = inr (record {
  whole = decimal (ms / 1000);
  fraction = three_digits ms;
  parts = refl;
  second = ms / 1000;
  behind = ((ms / 100 % 10) * 100 + (ms / 10 % 10) * 10 + ms % 10) * 1000000;
  spells_second = inl (seconds_spelled (ms / 1000) (omega arith));
  spells_behind = three_spelled ms;
  value = omega (arith, decimals ms);
})

pub time_back : TimeReadsBack
time_back unit unit_ms small =
    let same : unit * unit_ms * 1000000 ≡ unit * unit_nanos unit_ms = omega arith in
    subst (SpellsTime (time_text unit unit_ms)) same (millis_spelled (unit * unit_ms) small)

pub range_back : RangeReadsBack
range_back from stop unit_ms first last = record {
  first = time_text from unit_ms;
  last = time_text stop unit_ms;
  times = record { unit = codes "npt"; npt = refl; parts = refl };
  spells_start = time_back from unit_ms first;
  spells_stop = time_back stop unit_ms last;
}

pub stop_back : StopReadsBack
stop_back stop unit_ms last = record {
  first = [];
  last = time_text stop unit_ms;
  times = record { unit = codes "npt"; npt = refl; parts = refl };
  spells_start = refl;
  spells_stop = time_back stop unit_ms last;
}

-- ---- units

holds_itself : (unit_ms n : ℕ) → 0 < unit_ms → HoldsTime unit_ms (n * unit_nanos unit_ms) n
holds_itself unit_ms n pos = record { begun = omega arith; not_ended = omega arith }

reach_itself : (unit_ms n : ℕ) → 0 < unit_ms → ReachTime unit_ms (n * unit_nanos unit_ms) n
reach_itself unit_ms n pos = record {
  reached = omega arith;
  least = λ m le. let k : n < m + 1 = below_times (unit_nanos unit_ms) n (m + 1) (omega (arith, le)) in omega (arith, k);
}

pub units_back : UnitsStay
units_back resume from stop unit_ms units pos some fits = record {
  starts = holds_itself unit_ms from pos;
  stops = (stop, reach_itself unit_ms stop pos, omega arith);
  inside = not_outside;
} where
  not_outside : ¬ IsOutOfMedia (unit_range from stop unit_ms) resume unit_ms units
  not_outside (inl h) =
      let same = one_start (Some (unit_time from unit_ms)) resume unit_ms h.0 from h.1 (holds_itself unit_ms from pos) in
      absurd (omega (arith, same, h.2))
  not_outside (inr h) =
      let below : from * unit_nanos unit_ms < stop * unit_nanos unit_ms = mul-lt-mul_of_pos_right some (omega arith) in
      absurd (omega (arith, below, h))
