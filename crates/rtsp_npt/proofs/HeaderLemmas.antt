-- What is printed is short and visible.
use Rattle.std.proofs.Common.{◌≡◌, ℕ, ◌*◌, ◌/◌, ◌^◌, ◌<◌, ◌≤◌, true, [], ◌∷◌, ◌++◌, length, refl, arith, lit<}
use Rattle.std.specs.Prelude.{codes, decimal}
use Rattle.std.specs.Char.{is_ascii_graphic}
use Rattle.std.proofs.lemmas.Bool.Decides.{nat_tests}
use Rattle.std.proofs.lemmas.Fmt.{length-decimal-le}
use Rattle.std.proofs.lemmas.List.{length-append}
use Rattle.std.proofs.lemmas.Nat.{mul-lt}
use Rattle.rtsp_npt.specs.Bytes.{dash, point}
use Rattle.rtsp_npt.specs.Units.{unit_nanos}
use Rattle.rtsp_npt.specs.Printed.{millis_text, time_text}
use Rattle.rtsp_npt.specs.Laws.{TimeFits, RangeFits, StopFits}
use Rattle.rtsp_text.specs.Decimal.{three_digits}
use Rattle.rtsp_text.proofs.ByteLemmas.{all_weaker, all_joined}
use Rattle.rtsp_npt.proofs.TimeLemmas.{is_time_byte, time_bytes}
use Rattle.rtsp_npt.proofs.PrintLemmas.{time_back}

visible_byte : (b : ℕ) → is_time_byte b ≡ true → is_ascii_graphic b ≡ true
visible_byte b e = grind (arith, nat_tests)

millis_len : (ms : ℕ) → ms < 2 ^ 64 → length (millis_text ms) ≤ 21
unfolding millis_text
millis_len ms small =
    let whole : length (decimal (ms / 1000)) ≤ 17 = length-decimal-le 17 (ms / 1000) (lit< tt) (omega arith) (omega arith) in
    omega (arith, whole, length-append (decimal (ms / 1000)) (point ∷ three_digits ms))

pub short_time : TimeFits
short_time unit unit_ms u m =
    let product : unit * unit_ms < 2 ^ 64 = mul-lt unit unit_ms (2 ^ 32) (2 ^ 32) u m in
    record {
      few = millis_len (unit * unit_ms) product;
      visible = all_weaker is_time_byte is_ascii_graphic (time_text unit unit_ms) visible_byte (time_bytes (time_text unit unit_ms) (unit * unit_nanos unit_ms) (time_back unit unit_ms (omega (arith, product))));
    }

pub short_range : RangeFits
short_range from stop unit_ms f s m =
    let a = short_time from unit_ms f m in
    let b = short_time stop unit_ms s m in
    record {
      few = omega (arith, a.few, b.few, length-append (codes "npt=" ++ time_text from unit_ms) (dash ∷ time_text stop unit_ms), length-append (codes "npt=") (time_text from unit_ms));
      visible = all_joined is_ascii_graphic (codes "npt=" ++ time_text from unit_ms) (dash ∷ time_text stop unit_ms) (all_joined is_ascii_graphic (codes "npt=") (time_text from unit_ms) refl a.visible) (all_joined is_ascii_graphic (dash ∷ []) (time_text stop unit_ms) refl b.visible);
    }

pub short_stop : StopFits
short_stop stop unit_ms s m =
    let b = short_time stop unit_ms s m in
    record {
      few = omega (arith, b.few, length-append (codes "npt=-") (time_text stop unit_ms));
      visible = all_joined is_ascii_graphic (codes "npt=-") (time_text stop unit_ms) refl b.visible;
    }
