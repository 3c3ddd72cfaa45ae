use Rattle.std.proofs.Common.{◌++◌, ◌∷◌, [], false}
use Rattle.rtsp_content.specs.Growing.{places_in}
use Rattle.rtsp_content.proofs.GivingLemmas.{offers-behind, offers-then}
use Rattle.rtsp_content.proofs.standing.Standing.offer.Goals as goal

pub returns-in-None : goal.returns-in-None
returns-in-None c =
    let old = places_in c.args.self.now in
    offers-then c.offer_behind.result (record { free = c.args.free.now; number = c.args.given; behind = c.args.behind }) old c.args.wanted.now c.offer_behind.new.self
    (old.presentations ++ c.args.wanted.now ∷ []) (old.withdrawn ++ false ∷ []) (old.numbers ++ c.args.behind ∷ [])
    c.offer_behind.ensures.stands c.offer_behind.ensures.offered c.offer_behind.ensures.number
    (offers-behind (record { free = c.args.free.now; number = c.args.given; behind = c.args.behind }) old c.args.wanted.now c.requires)
