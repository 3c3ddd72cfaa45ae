use Rattle.std.proofs.Common.{cond, w64, sym, ap, ◌∙◌}
use Rattle.std.proofs.lemmas.Nat.Bits.{bit_at_set_same, bit_at_set_other, bit_at_clear_same, bit_at_clear_other}
use Rattle.rtsp_pools.proofs.words.with_bit.Goals as goal

pub returns-then-on-clause-there : goal.returns-then-on-clause-there
returns-then-on-clause-there c = bit_at_set_same w64 c.args.bits c.args.place c.requires ∙ sym (ap (λ b. cond b 1 0) c.if-on.true)

pub returns-then-on-clause-others : goal.returns-then-on-clause-others
returns-then-on-clause-others c i below apart = bit_at_set_other w64 c.args.bits c.args.place c.requires i apart

pub returns-else-on-clause-there : goal.returns-else-on-clause-there
returns-else-on-clause-there c = bit_at_clear_same w64 c.args.bits c.args.place c.requires ∙ sym (ap (λ b. cond b 1 0) c.if-on.false)

pub returns-else-on-clause-others : goal.returns-else-on-clause-others
returns-else-on-clause-others c i below apart = bit_at_clear_other w64 c.args.bits c.args.place c.requires i below apart
