use Rattle.std.proofs.Common.{◌*◌, ◌%◌, ◌^◌, inl, inr, sym, ap, ◌∙◌, arith}
use Rattle.std.specs.Int.{bit_not, w128}
use Rattle.std.proofs.lemmas.Bool.{cases_lt}
use Rattle.std.proofs.lemmas.Nat.{and_le_l}
use Rattle.std.proofs.lemmas.Nat.Bits.{bit_at_set_same, bit_at_set_other, bit_at_clear_same, bit_at_clear_other, bit_at_above}
use Rattle.rtsp_record.specs.Sums.{one_if}
use Rattle.rtsp_pools.proofs.chan_pool.with_bit.Goals as goal

pub returns-then-on-clause-there : goal.returns-then-on-clause-there
returns-then-on-clause-there c = bit_at_set_same w128 c.args.bits c.args.place c.requires ∙ sym (ap one_if c.if-on.true)

pub returns-then-on-clause-others : goal.returns-then-on-clause-others
returns-then-on-clause-others c i apart = bit_at_set_other w128 c.args.bits c.args.place c.requires i apart

pub returns-else-on-clause-there : goal.returns-else-on-clause-there
returns-else-on-clause-there c = bit_at_clear_same w128 c.args.bits c.args.place c.requires ∙ sym (ap one_if c.if-on.false)

pub returns-else-on-clause-others : goal.returns-else-on-clause-others
returns-else-on-clause-others c i apart =
    elim (cases_lt i 128) [
      | inl below ↦ bit_at_clear_other w128 c.args.bits c.args.place c.requires i below apart
      | inr past ↦
          let fits = c.ranges.bits.fits in
          bit_at_above _ 128 i (omega (arith, fits, and_le_l c.args.bits (bit_not w128 (1 * 2 ^ c.args.place % 2 ^ 128)))) past ∙ sym (bit_at_above c.args.bits 128 i fits past)
    ]
