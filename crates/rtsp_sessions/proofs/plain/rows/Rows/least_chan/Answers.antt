use Rattle.std.proofs.Common.{◌≡◌, ◌+◌, ◌*◌, ◌-◌, cond, true, false, sym, ap, ◌∙◌, arith}
use Rattle.std.specs.Prelude.{Some}
use Rattle.rtsp_record.specs.Choices.{is_chan_free, least_of}
use Rattle.rtsp_record.proofs.Choices.{chan_start, chan_step, least_end}
use Rattle.rtsp_sessions.proofs.plain.rows.Rows.least_chan.Goals as goal

pub loop-pair-init : goal.loop-pair-init
loop-pair-init c = chan_start (is_chan_free c.args.self.now c.args.conn)

pub returns-then-is_chan_free : goal.returns-then-is_chan_free
returns-then-is_chan_free c =
    let b = c.args.self.now in
    let takes = is_chan_free b c.args.conn in
    let i = c.loop-pair.pair in
    let free : takes (2 * i) ≡ true = sym c.is_chan_free.ensures ∙ c.if-is_chan_free.true in
    sym (sym c.loop-pair.invariant ∙ chan_step takes i 128 (omega arith) ∙ ap (λ t. cond t (Some (2 * i)) (least_of 2 takes (2 * (i + 1)) (128 - (i + 1)))) free)

pub loop-pair-preserved : goal.loop-pair-preserved
loop-pair-preserved c =
    let b = c.args.self.now in
    let takes = is_chan_free b c.args.conn in
    let i = c.loop-pair.pair in
    let free : takes (2 * i) ≡ false = sym c.is_chan_free.ensures ∙ c.if-is_chan_free.false in
    sym (ap (λ t. cond t (Some (2 * i)) (least_of 2 takes (2 * (i + 1)) (128 - (i + 1)))) free) ∙ sym (chan_step takes i 128 (omega arith)) ∙ c.loop-pair.invariant

pub returns : goal.returns
returns c =
    sym (sym c.loop-pair.invariant ∙ least_end 2 (is_chan_free c.args.self.now c.args.conn) _ (128 - c.loop-pair.pair) (omega arith))
