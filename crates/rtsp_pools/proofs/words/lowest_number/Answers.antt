use Rattle.std.proofs.Common.{◌∙◌, arith}
use Rattle.rtsp_pools.proofs.BitLemmas.{placed, none_below, none_past}
use Rattle.rtsp_pools.proofs.words.lowest_number.Goals as goal

pub loop-index-init : goal.loop-index-init
loop-index-init c = (omega arith, omega arith, λ j after before. absurd (omega (arith, after, before)))

pub lowest_bit-requires : goal.lowest_bit-requires
lowest_bit-requires c = c.loop-index.invariant.0

pub returns-in-Some-clause-found : goal.returns-in-Some-clause-found
returns-in-Some-clause-found c =
    let found = c.in-Some.ensures.found in
    (omega (arith, c.loop-index.invariant.1, found.1), omega (arith, found.0, c.loop-index-test.true), placed c.args.words.now c.loop-index.index c.in-Some.bit found.0 ∙ found.2)

pub returns-in-Some-clause-least : goal.returns-in-Some-clause-least
returns-in-Some-clause-least c = none_below c.args.words.now c.args.from c.loop-index.index c.loop-index.low c.in-Some.bit c.loop-index.invariant.2 c.in-Some.ensures.least (omega (arith, c.in-Some.ensures.found.0))

pub loop-index-preserved : goal.loop-index-preserved
loop-index-preserved c =
    let none = none_below c.args.words.now c.args.from c.loop-index.index c.loop-index.low 64 c.loop-index.invariant.2 c.in_default.ensures.none (omega arith) in
    (omega arith, omega (arith, c.loop-index.invariant.1, c.loop-index.invariant.0), λ j after before. none j after (omega (arith, before)))

pub returns-clause-none : goal.returns-clause-none
returns-clause-none c = none_past c.args.words.now c.args.from c.loop-index.index c.loop-index.low c.loop-index.invariant.2 (omega (arith, c.loop-index-test.false))
