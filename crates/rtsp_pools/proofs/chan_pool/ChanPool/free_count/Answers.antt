use Rattle.std.proofs.Common.{◌≡◌, ◌==◌, sym, ap, ◌∙◌, arith}
use Rattle.std.specs.Int.{bit_at}
use Rattle.rtsp_record.specs.Choices.{count_of}
use Rattle.rtsp_pools.specs.Pools.{is_free_chan}
use Rattle.rtsp_pools.proofs.LeastLemmas.{count_none}
use Rattle.rtsp_pools.proofs.ChanLemmas.{chan_at, counted_one}
use Rattle.rtsp_pools.proofs.chan_pool.ChanPool.free_count.Goals as goal

pub loop-pair-init : goal.loop-pair-init
loop-pair-init c = (omega arith, sym (count_none 2 (is_free_chan c.args.self.now c.args.conn) 0))

pub loop-pair-preserved : goal.loop-pair-preserved
loop-pair-preserved c =
    let pool = c.args.self.now in
    let i = c.loop-pair.pair in
    counted_one (is_free_chan pool c.args.conn) c.loop-pair.count i _ c.is_off.result c.loop-pair.invariant
    (chan_at pool c.args.conn i ∙ ap (λ b. bit_at b i == 0) (sym c.bits-bits.ensures) ∙ sym c.is_off.ensures) (omega (arith, c.number_of-count.ensures.value))

pub returns : goal.returns
returns c =
    let last : c.loop-pair.pair ≡ 128 = omega (arith, c.loop-pair-test.false, c.loop-pair.auto.pair-end) in
    c.loop-pair.invariant.1 ∙ ap (count_of 2 (is_free_chan c.args.self.now c.args.conn) 0) last
