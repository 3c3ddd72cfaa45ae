use Rattle.std.proofs.Common.{◌∙◌, ◌<◌, ◌==◌, length, ℕ, cond, get_or, set, ap, sym, arith}
use Rattle.std.specs.Prelude.{slice_get}
use Rattle.std.specs.List.{count_by}
use Rattle.std.proofs.lemmas.List.{length-set}
use Rattle.std.proofs.lemmas.Option.{slice_get-get_or}
use Rattle.rtsp_shares.proofs.Exchanging.{replaced_one, places_less}
use Rattle.rtsp_shares.proofs.table.ShareTable.put_at.Goals as goal

pub invariant_of-self : goal.invariant_of-self
invariant_of-self c =
    let old = c.self.inside.taken.items in
    let now = ap (λ v. v.taken) c.self.view_is in
    let lt : c.args.at < length old = omega (arith, c.requires.inside, ap length now) in
    let gone = get_or old c.args.at c.args.place in
    let is = slice_get-get_or old c.args.at c.args.place lt in
    let same = c.requires.same gone (ap (λ l. slice_get l c.args.at) (sym now) ∙ is) in (
      places_less (record { share = c.self.inside.share; widest = c.self.inside.widest; most = c.self.inside.most; taken = old }) (set old c.args.at c.args.place) c.self.invariant.0 (λ q. omega (arith, replaced_one old c.args.at gone c.args.place is (λ place. place.address == q), ap {B = ℕ} (λ p. cond (p == q) 1 0) same)) (omega (arith, length-set old c.args.at c.args.place)),
      c.self.invariant.1,
    )

pub returns-clause-put : goal.returns-clause-put
returns-clause-put c = λ gone is test.
    let now = ap (λ v. v.taken) c.self.view_is in
    omega (arith, ap (count_by test) now, replaced_one c.self.inside.taken.items c.args.at gone c.args.place (ap (λ l. slice_get l c.args.at) now ∙ is) test)
