use Rattle.std.proofs.Common.{arith, min}
use Rattle.rtsp_grammar.specs.Number.{number_after}
use Rattle.rtsp_grammar.proofs.NumberLemmas.{step_number}
use Rattle.rtsp_grammar.proofs.number.number.Goals as goal

pub loop-digit-preserved : goal.loop-digit-preserved
loop-digit-preserved c = (omega arith, step_number c.args.digits.now c.loop-digit.digit-index c.loop-digit.value c.min-value.result (min (number_after 0 c.args.digits.now) 100000) c.loop-digit-test.true (omega arith) c.loop-digit.invariant.1)
