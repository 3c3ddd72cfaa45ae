use Rattle.std.proofs.Common.{◌≡◌, get_or, sym, ◌∙◌, arith}
use Rattle.std.proofs.lemmas.Grind.{get_or_default_zero}
use Rattle.rtsp_index.proofs.LesserLemmas.{first_least, first_there}
use Rattle.rtsp_index.proofs.moments.Moments.least.Goals as goal

pub returns-else-self-eq0-clause-below : goal.returns-else-self-eq0-clause-below
returns-else-self-eq0-clause-below c p lt =
    let m = c.args.self.now in
    let first : c.index.result.now ≡ get_or m.least.items 1 0 = c.index.ensures ∙ get_or_default_zero m.least.items 1 c.index.result.now (omega (arith, m.lessers.long, lt)) in
    omega (arith, first, first_least m.places m.least.items m.lessers p lt)

pub returns-else-self-eq0-clause-there : goal.returns-else-self-eq0-clause-there
returns-else-self-eq0-clause-there c some =
    let m = c.args.self.now in
    let first : c.index.result.now ≡ get_or m.least.items 1 0 = c.index.ensures ∙ get_or_default_zero m.least.items 1 c.index.result.now (omega (arith, m.lessers.long, some)) in
    let there = first_there m.places m.least.items m.lessers some in
    (there.0, there.1, there.2 ∙ sym first)
