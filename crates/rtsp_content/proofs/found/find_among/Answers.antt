use Rattle.std.proofs.Common.{◌∙◌, sym, ap, drop, ◌+◌}
use Rattle.rtsp_content.specs.Paths.{elder, find_from, found_at}
use Rattle.rtsp_content.proofs.AgeLemmas.{elder-alone, elder-assoc, eldest, is_none_younger}
use Rattle.rtsp_content.proofs.PathLemmas.{find_from-step, find_from-end}
use Rattle.rtsp_content.proofs.found.find_among.Goals as goal

pub returns-then-eq : goal.returns-then-eq
returns-then-eq c =
    let ns = c.args.numbers.now in
    let ps = c.args.presentations.now in
    let path = c.args.path.now in
    let i = c.loop-index.index in
    let rest = find_from ns (i + 1) (drop (i + 1) ps) path in
    let zero = is_none_younger c.number_found.result (sym c.eq.ensures ∙ c.if-eq.true) in
    let step = find_from-step ns ps i path c.index-presentations-index.result c.loop-index-test.true c.index-presentations-index.is in
    let now = c.elder-found.ensures ∙ ap (elder ns c.loop-index.found) c.found_at.ensures in
    sym (c.loop-index.invariant ∙ ap (elder ns c.loop-index.found) step ∙ sym (elder-assoc ns c.loop-index.found (found_at i c.index-presentations-index.result path) rest)
    ∙ ap (λ f. elder ns f rest) (sym now) ∙ eldest ns c.elder-found.result rest (sym c.number_found.ensures ∙ zero))

pub loop-index-preserved : goal.loop-index-preserved
loop-index-preserved c =
    let ns = c.args.numbers.now in
    let ps = c.args.presentations.now in
    let path = c.args.path.now in
    let i = c.loop-index.index in
    let rest = find_from ns (i + 1) (drop (i + 1) ps) path in
    let step = find_from-step ns ps i path c.index-presentations-index.result c.loop-index-test.true c.index-presentations-index.is in
    let now = c.elder-found.ensures ∙ ap (elder ns c.loop-index.found) c.found_at.ensures in
    c.loop-index.invariant ∙ ap (elder ns c.loop-index.found) step ∙ sym (elder-assoc ns c.loop-index.found (found_at i c.index-presentations-index.result path) rest) ∙ ap (λ f. elder ns f rest) (sym now)

pub returns : goal.returns
returns c =
    let ns = c.args.numbers.now in
    let end = find_from-end ns c.args.presentations.now c.loop-index.index c.args.path.now c.loop-index-test.false in
    sym (c.loop-index.invariant ∙ ap (elder ns c.loop-index.found) end ∙ elder-alone ns c.loop-index.found)
