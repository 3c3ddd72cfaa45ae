use Rattle.rtspd.proofs.devices.laws.law_alone_has_places.Goals as goal

pub returns : goal.returns
returns c = c.law_never_wants_place.ensures (λ b c peer h. h)
