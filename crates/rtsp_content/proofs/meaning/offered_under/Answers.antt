use Rattle.std.proofs.Common.{◌∙◌, sym, ap}
use Rattle.std.specs.Prelude.{not, ◌&&◌, bytes_eq}
use Rattle.rtsp_content.proofs.OfferingLemmas.{offered_from-here, offered_from-more, offered_from-end}
use Rattle.rtsp_content.proofs.meaning.offered_under.Goals as goal

pub returns-then-is_offered_as : goal.returns-then-is_offered_as
returns-then-is_offered_as c =
    let p = c.index-presentations-index.result in
    let test = sym (ap (λ g. not g && bytes_eq p.name c.args.name.now) c.is_gone.ensures) ∙ sym c.if-is_offered_as.ensures in
    sym (c.loop-index.invariant ∙ offered_from-here c.args.presentations.now c.args.withdrawn.now c.args.name.now c.loop-index.index p c.loop-index-test.true c.index-presentations-index.is test)

pub loop-index-preserved : goal.loop-index-preserved
loop-index-preserved c =
    let p = c.index-presentations-index.result in
    let test = sym (ap (λ g. not g && bytes_eq p.name c.args.name.now) c.is_gone.ensures) ∙ sym c.if-is_offered_as.ensures in
    c.loop-index.invariant ∙ offered_from-more c.args.presentations.now c.args.withdrawn.now c.args.name.now c.loop-index.index p c.loop-index-test.true c.index-presentations-index.is test

pub returns : goal.returns
returns c = sym (c.loop-index.invariant ∙ offered_from-end c.args.presentations.now c.args.withdrawn.now c.args.name.now c.loop-index.index c.loop-index-test.false)
