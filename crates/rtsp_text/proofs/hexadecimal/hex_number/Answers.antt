use Rattle.std.proofs.Common.{arith, ap, ◌∙◌, Some, ◌<◌, suc, add-one}
use Rattle.rtsp_text.specs.Hexadecimal.{hex_digit}
use Rattle.rtsp_text.proofs.HexLemmas.{hex_none, room_for_digit, step_digit, no_digit, is_hex_of, one_number}
use Rattle.rtsp_text.proofs.hexadecimal.hex_number.Goals as goal

pub loop-byte-init : goal.loop-byte-init
loop-byte-init c = record { digits = hex_none 0; fits = omega arith }

pub returns-in_default-clause-only : goal.returns-in_default-clause-only
returns-in_default-clause-only c = λ n s. absurd (no_digit c.args.text.now c.loop-byte.byte-index n c.loop-byte-test.true c.in_default.ensures.none s)

pub overflow_mul-number : goal.overflow_mul-number
overflow_mul-number c = let r = room_for_digit 32 c.loop-byte.byte-index c.loop-byte.number 0 (omega arith) c.loop-byte.invariant.fits (omega arith) in omega arith

pub overflow_add-number : goal.overflow_add-number
overflow_add-number c =
    let d = c.in-Some.ensures.found.0 in
    let e = c.from.ensures in
    let r = room_for_digit 32 c.loop-byte.byte-index c.loop-byte.number c.from.result (omega arith) c.loop-byte.invariant.fits (omega arith) in
    omega arith

pub loop-byte-preserved : goal.loop-byte-preserved
loop-byte-preserved c =
    let d = c.in-Some.ensures.found in
    let e = c.from.ensures in
    let small : c.from.result < 16 = omega arith in
    record {
      digits = step_digit c.args.text.now c.loop-byte.byte-index c.loop-byte.number c.from.result c.loop-byte-test.true small (ap hex_digit e ∙ d.1) c.loop-byte.invariant.digits;
      fits = rw add-one (room_for_digit (suc c.loop-byte.byte-index) c.loop-byte.byte-index c.loop-byte.number c.from.result (omega arith) c.loop-byte.invariant.fits small);
    }

pub returns-clause-found : goal.returns-clause-found
returns-clause-found c = is_hex_of c.args.text.now c.loop-byte.byte-index c.loop-byte.number (omega arith) c.loop-byte.invariant.digits c.loop-byte.invariant.fits

pub returns-clause-only : goal.returns-clause-only
returns-clause-only c = λ n s. ap Some (one_number c.args.text.now c.loop-byte.byte-index c.loop-byte.number n (omega arith) c.loop-byte.invariant.digits c.loop-byte.invariant.fits s)
