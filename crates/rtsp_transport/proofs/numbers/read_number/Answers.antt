use Rattle.std.proofs.Common.{refl, sym, ◌∙◌}
use Rattle.rtsp_text.specs.Decimal.{SpellsNumber, number_of}
use Rattle.rtsp_text.proofs.DecimalLemmas.{numbers}
use Rattle.rtsp_text.proofs.FindsLemmas.{sound_at, unfound}
use Rattle.rtsp_transport.proofs.numbers.read_number.Goals as goal

pub returns-in-Some-clause-found : goal.returns-in-Some-clause-found
returns-in-Some-clause-found c = sound_at (SpellsNumber c.args.most) (number_of c.args.most) (numbers c.args.most) c.args.text.now c.in-Some.number (sym c.number_of.ensures.value ∙ c.in-Some.is)

pub returns-in-Some-clause-only : goal.returns-in-Some-clause-only
returns-in-Some-clause-only c = λ n s.
    let read = (numbers c.args.most).complete c.args.text.now n s in
    let both = sym c.in-Some.is ∙ c.number_of.ensures.value ∙ read in
    cc

pub returns-in-None-clause-only : goal.returns-in-None-clause-only
returns-in-None-clause-only c = λ n s. absurd (unfound (SpellsNumber c.args.most) (number_of c.args.most) (numbers c.args.most) c.args.text.now (sym c.number_of.ensures.value ∙ c.in-None.is) n s)

pub returns-in-None-clause-fault : goal.returns-in-None-clause-fault
returns-in-None-clause-fault c = (refl, unfound (SpellsNumber c.args.most) (number_of c.args.most) (numbers c.args.most) c.args.text.now (sym c.number_of.ensures.value ∙ c.in-None.is))
