-- A number that a seat drew is used by no other seat that keeps to its own.
use Rattle.std.proofs.Common.{◌≡◌, ◌==◌, ℕ, suc, List, [], ◌∷◌, refl, sym, ◌∙◌, subst, arith, inl, inr}
use Rattle.std.specs.Prelude.{filter, Contains}
use Rattle.std.proofs.lemmas.Bool.{cases_eq, eq-eqb, both_ways}
use Rattle.rtsp_record.specs.declared.changes.Entry.{Entry}
use Rattle.rtsp_record.specs.declared.holdings.Whole.{Whole}
use Rattle.rtsp_lock.specs.declared.view.View.{View}
use Rattle.rtsp_lock.specs.Entries.{OnlyOf, Has, Part, entries_of}
use Rattle.rtsp_lock.specs.Numbers.{is_use_of, uses}
use Rattle.rtsp_lock.proofs.Entries.{filters, part_passing}
use Rattle.rtsp_lock.proofs.Using.{not_some}
use Rattle.rtsp_lock.proofs.Sharing.{none_pass, used_alone}
use Rattle.rtsp_admit.specs.Numbers.{DrawingSeat, DrawnUsedAlone, HistoryUsedAlone}

only_of : (actor : ℕ) (l : List Entry) → ((e : Entry) → Contains l e → e.actor ≡ actor) → OnlyOf actor l
only_of actor [] h = tt
only_of actor (e ∷ l) h = (h e (0, omega arith, refl), only_of actor l (λ x is. let lt = is.1 in h x (suc is.0, omega (arith, lt), is.2)))

-- another seat that keeps to its own numbers has no entry under one of this seat's
no_other : (w : Whole) (u : View) (n : ℕ) (e : Entry) → Has u.drawn n → DrawingSeat w u e.actor → Contains (uses n u.seen) e → ⊥
no_other w u n e drawn d is =
    let x = d.view in
    let two = d.seats in
    let common = two.keeps.common in
    let apart = common.apart two.first two.second u x two.at_first two.at_second two.two in
    let none : uses n x.mine ≡ [] = not_some (uses n x.mine) (λ some. apart.drawn n drawn (d.drawn n some)) in
    let told = part_passing (λ (e : Entry). is_use_of n e.change) (entries_of x.actor u.seen) x.mine (common.told two.first two.second u x two.at_first two.at_second) in
    let left : filter (λ (e : Entry). e.actor == x.actor) (uses n u.seen) ≡ [] =
    filters (λ (e : Entry). e.actor == x.actor) (λ (e : Entry). is_use_of n e.change) u.seen ∙ subst (Part (uses n (entries_of x.actor u.seen))) none told in
    both_ways (e.actor == x.actor) (none_pass (λ (e : Entry). e.actor == x.actor) (uses n u.seen) e left is) (eq-eqb e.actor x.actor (sym d.actor))

pub drawn_used_alone : DrawnUsedAlone
drawn_used_alone w u n drawn others =
    only_of u.actor (uses n u.seen) (λ e is. elim (cases_eq e.actor u.actor) [ inl same ↦ same | inr apart ↦ absurd (no_other w u n e drawn (others e is apart) is) ])

pub history_used_alone : HistoryUsedAlone
history_used_alone w v u seats n on drawn = used_alone w seats.state seats.keeps seats.first v seats.at_first on n drawn
