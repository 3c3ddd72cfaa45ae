use Rattle.std.proofs.Common.{◌≡◌, ◌+◌, ◌++◌, sym, subst, flat_map, drop, arith, length-append}
use Rattle.std.specs.FinMap.{entries}
use Rattle.rtsp_book.specs.Returns.{giving_back}
use Rattle.rtsp_book.proofs.Replying.{row_made, row_fits}
use Rattle.rtsp_book.proofs.reply.returning.give_back_all.Goals as goal

pub give_back-requires : goal.give_back-requires
give_back-requires c =
    let each = giving_back c.args.session in
    let es = entries c.args.admissions.now in
    omega (arith, row_fits each c.loop-index.made (c.args.made.now ++ flat_map each es) es c.loop-index.index c.at-admission.result c.at-admission.ensures c.loop-index.invariant, length-append c.args.made.now (flat_map each es))

pub loop-index-preserved : goal.loop-index-preserved
loop-index-preserved c =
    let each = giving_back c.args.session in
    let es = entries c.args.admissions.now in
    let all = c.args.made.now ++ flat_map each es in
    subst (λ made. made ++ flat_map each (drop (c.loop-index.index + 1) es) ≡ all) (sym c.give_back.ensures)
    (row_made each c.loop-index.made all es c.loop-index.index c.at-admission.result c.at-admission.ensures c.loop-index.invariant)
