use Rattle.std.proofs.Common.{◌∙◌, Some, ap, arith}
use Rattle.rtsp_transport.proofs.IdLemmas.{pairs_more, pairs_one}
use Rattle.rtsp_transport.proofs.session.id_of.Goals as goal

pub loop-i-preserved : goal.loop-i-preserved
loop-i-preserved c =
    let high = c.digit_value-high.ensures in
    let low = c.digit_value-low.ensures in
    pairs_more c.args.digits.now c.loop-i.bytes c.loop-i.i c.digit_value-high.result c.digit_value-low.result c.loop-i.are_digits c.requires c.loop-i-test.true (high.digit, high.other) (low.digit, low.other) c.loop-i.invariant

pub returns-then-are_digits-clause-only : goal.returns-then-are_digits-clause-only
returns-then-are_digits-clause-only c = λ n s.
    let read = rw c.if-are_digits.true at c.loop-i.invariant in
    ap Some (c.from_be_bytes.ensures ∙ pairs_one c.args.digits.now c.loop-i.bytes c.loop-i.i n c.requires (omega arith) read s)
