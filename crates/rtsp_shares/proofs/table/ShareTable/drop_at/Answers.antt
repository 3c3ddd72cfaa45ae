use Rattle.std.proofs.Common.{◌∙◌, ◌<◌, ◌==◌, length, ap, arith}
use Rattle.std.specs.Prelude.{slice_get}
use Rattle.std.specs.List.{count_by}
use Rattle.rtsp_shares.proofs.Exchanging.{gone_at, gone_one, places_less}
use Rattle.rtsp_shares.proofs.table.ShareTable.drop_at.Goals as goal

pub invariant_of-self : goal.invariant_of-self
invariant_of-self c =
    let old = c.self.inside.taken.items in
    let new = c.swap_remove.new.self.items in
    let lt : c.args.at < length old = omega (arith, c.requires, ap (λ v. length v.taken) c.self.view_is) in (
      places_less (record { share = c.self.inside.share; widest = c.self.inside.widest; most = c.self.inside.most; taken = old }) new c.self.invariant.0 (λ q. omega (arith, gone_at old new c.args.at c.swap_remove.result c.swap_remove.ensures.items lt (λ place. place.address == q))) (omega (arith, c.swap_remove.ensures.len)),
      c.swap_remove.ensures.capacity ∙ c.self.invariant.1,
    )

pub returns-clause-dropped : goal.returns-clause-dropped
returns-clause-dropped c = λ gone is test.
    let now = ap (λ v. v.taken) c.self.view_is in
    omega (arith, ap (count_by test) now, gone_one c.self.inside.taken.items c.swap_remove.new.self.items c.args.at gone c.swap_remove.result c.swap_remove.ensures.items (ap (λ l. slice_get l c.args.at) now ∙ is) test)
