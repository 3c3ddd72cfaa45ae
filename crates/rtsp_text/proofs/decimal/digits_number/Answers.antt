use Rattle.std.proofs.Common.{◌≡◌, ◌∙◌, length, sym, arith}
use Rattle.rtsp_text.proofs.DecimalLemmas.{more_front, more_fits, number_none, whole_number, front_small}
use Rattle.rtsp_text.proofs.decimal.digits_number.Goals as goal

pub returns-then-not-is_ascii_digit-clause-value : goal.returns-then-not-is_ascii_digit-clause-value
returns-then-not-is_ascii_digit-clause-value c =
    sym (number_none c.args.text.now c.loop-digit.digit-index c.loop-digit-test.true (sym c.is_ascii_digit.ensures.value ∙ c.if-not-is_ascii_digit.true))

pub overflow_mul-number : goal.overflow_mul-number
overflow_mul-number c =
    let h = more_fits c.args.text.now c.loop-digit.digit-index c.loop-digit.number c.requires c.loop-digit-test.true (sym c.is_ascii_digit.ensures.value ∙ c.if-not-is_ascii_digit.false) c.loop-digit.invariant in
    omega (arith, h)

pub overflow_add-number : goal.overflow_add-number
overflow_add-number c =
    let h = more_fits c.args.text.now c.loop-digit.digit-index c.loop-digit.number c.requires c.loop-digit-test.true (sym c.is_ascii_digit.ensures.value ∙ c.if-not-is_ascii_digit.false) c.loop-digit.invariant in
    omega (arith, h, c.from.ensures)

pub loop-digit-preserved : goal.loop-digit-preserved
loop-digit-preserved c =
    rw c.from.ensures (more_front c.args.text.now c.loop-digit.digit-index c.loop-digit.number c.loop-digit-test.true (sym c.is_ascii_digit.ensures.value ∙ c.if-not-is_ascii_digit.false) c.loop-digit.invariant)

pub returns-clause-value : goal.returns-clause-value
returns-clause-value c = sym (whole_number c.args.text.now c.loop-digit.digit-index c.loop-digit.number c.loop-digit-test.false c.loop-digit.invariant)

pub returns-clause-small : goal.returns-clause-small
returns-clause-small c =
    let whole : c.loop-digit.digit-index ≡ length c.args.text.now = omega arith in
    rw (← whole) (front_small c.args.text.now c.loop-digit.digit-index c.loop-digit.number (omega arith) c.loop-digit.invariant)
