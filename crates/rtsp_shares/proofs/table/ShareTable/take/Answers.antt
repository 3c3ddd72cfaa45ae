use Rattle.std.proofs.Common.{◌∙◌, ◌<◌, length, ap, sym, subst, refl, arith}
use Rattle.rtsp_shares.specs.Places.{Places, ArePlacesWithin, places_of}
use Rattle.rtsp_shares.proofs.Exchanging.{places_more}
use Rattle.rtsp_shares.proofs.table.ShareTable.take.Goals as goal

pub invariant_of-self : goal.invariant_of-self
invariant_of-self c =
    let old : Places = record { share = c.self.inside.share; widest = c.self.inside.widest; most = c.self.inside.most; taken = c.self.inside.taken.items } in
    let room = c.in_default.ensures.room in
    let now = c.self.view_is in
    let less : places_of c.args.address old.taken < old.share = omega (arith, room.share, ap (λ v. places_of c.args.address v.taken) now, ap (λ v. v.share) now) in
    let fits : length old.taken < old.most = omega (arith, room.most, ap (λ v. length v.taken) now, ap (λ v. v.most) now) in (
      subst (λ l. ArePlacesWithin (record old { taken = l })) (sym c.push_reserved.ensures.items) (places_more old c.args.address c.self.invariant.0 less fits),
      c.push_reserved.ensures.capacity ∙ c.self.invariant.1,
    )
