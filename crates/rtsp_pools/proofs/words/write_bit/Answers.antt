use Rattle.std.proofs.Common.{◌/◌, ◌∙◌, ap}
use Rattle.std.specs.Int.{bit_at}
use Rattle.rtsp_record.specs.Sums.{one_if}
use Rattle.rtsp_pools.proofs.BitLemmas.{written_same, written_other, read}
use Rattle.rtsp_pools.proofs.words.write_bit.Goals as goal

pub returns-clause-there : goal.returns-clause-there
returns-clause-there c =
    let here = read c.args.words.now.items (c.args.number / 64) c.index.result.now c.requires c.index.ensures in
    written_same c.args.words.now.items c.with_bit.result c.args.number (one_if c.args.on) c.requires c.with_bit.ensures.there (λ i below apart. c.with_bit.ensures.others i below apart ∙ ap (λ w. bit_at w i) here)

pub returns-clause-others : goal.returns-clause-others
returns-clause-others c =
    let here = read c.args.words.now.items (c.args.number / 64) c.index.result.now c.requires c.index.ensures in
    written_other c.args.words.now.items c.with_bit.result c.args.number (one_if c.args.on) c.requires c.with_bit.ensures.there (λ i below apart. c.with_bit.ensures.others i below apart ∙ ap (λ w. bit_at w i) here)
