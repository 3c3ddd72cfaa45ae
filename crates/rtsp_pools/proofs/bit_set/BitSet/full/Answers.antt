use Rattle.std.proofs.Common.{◌∙◌, ap, inl, inr, arith}
use Rattle.std.proofs.lemmas.Bool.{cases_eq}
use Rattle.rtsp_pools.specs.Bits.{has}
use Rattle.rtsp_pools.proofs.bit_set.BitSet.full.Goals as goal

pub loop-number-init : goal.loop-number-init
loop-number-init c = (c.in_ok-all.ensures.limit, λ k below. absurd (omega (arith, below)), λ k from. c.in_ok-all.ensures.empty k)

pub insert-requires-clause-within : goal.insert-requires-clause-within
insert-requires-clause-within c = omega (arith, c.loop-number.invariant.0, c.loop-number-test.true)

pub insert-requires-clause-new : goal.insert-requires-clause-new
insert-requires-clause-new c = c.loop-number.invariant.2 c.loop-number.number (omega arith)

pub loop-number-preserved : goal.loop-number-preserved
loop-number-preserved c =
    let now = c.insert.ensures.put in
    let was = c.loop-number.invariant in (
      c.insert.ensures.limit ∙ was.0,
      λ k below. elim (cases_eq k c.loop-number.number) [
        | inl same ↦ ap (has c.insert.new.self.words.items) same ∙ now.here
        | inr apart ↦ now.others k apart ∙ was.1 k (omega (arith, below, apart))
      ],
      λ k from. now.others k (λ e. absurd (omega (arith, e, from))) ∙ was.2 k (omega (arith, from)),
    )

pub returns-clause-limit : goal.returns-clause-limit
returns-clause-limit c = c.loop-number.invariant.0

pub returns-clause-full : goal.returns-clause-full
returns-clause-full c k below = c.loop-number.invariant.1 k (omega (arith, below, c.loop-number-test.false))
