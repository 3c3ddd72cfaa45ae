-- A number that a seat drew is used by no other seat, where all use numbers that they drew.
use Rattle.std.proofs.Common.{◌≡◌, ◌==◌, ℕ, zero, suc, ◌≤◌, Bool, true, false, cond, List, [], ◌∷◌, refl, sym, ◌∙◌, ap, arith, inl, inr, Option}
use Rattle.std.specs.Prelude.{filter, Contains}
use mathlib.Core.Option.{some, some-injective}
use lib.ListN.{get_elem?}
use Rattle.std.proofs.lemmas.Bool.{cases_eq, eq-eqb, both_ways}
use Rattle.atomic_table.specs.Table.{State}
use Rattle.rtsp_record.specs.declared.changes.Entry.{Entry}
use Rattle.rtsp_record.specs.declared.holdings.Whole.{Whole}
use Rattle.rtsp_book.specs.Kept.{History}
use Rattle.rtsp_lock.specs.declared.view.View.{View}
use Rattle.rtsp_lock.specs.Entries.{OnlyOf, Has}
use Rattle.rtsp_lock.specs.Numbers.{is_use_of, uses}
use Rattle.rtsp_lock.specs.Rule.{OfSeat, EachOfSeat, Keeps}
use Rattle.rtsp_lock.proofs.Entries.{filters}
use Rattle.rtsp_lock.proofs.Using.{not_some}

-- where the filter leaves nothing each element fails the test
pub none_pass : {X : Type 0} (p : X → Bool) (l : List X) (x : X) → filter p l ≡ [] → Contains l x → p x ≡ false
none_pass p [] x none h = let lt = h.1 in absurd (omega (arith, lt))
none_pass {X} p (y ∷ l) x none h =
    elim (p y) as (λ t. p y ≡ t → cond t (y ∷ filter p l) (filter p l) ≡ [] → p x ≡ false) [
      | true ↦ λ _ e. absurd cc
      | false ↦ λ off e. here off (λ more. none_pass p l x e more) h
    ] refl none
  where
    here : p y ≡ false → (Contains l x → p x ≡ false) → Contains (y ∷ l) x → p x ≡ false
    here off rest (zero, lt, at) = ap p (sym at) ∙ off
    here off rest (suc k, lt, at) = rest (k, omega (arith, lt), at)

-- each entry that passes is a seat's
passing_owned : (views : List View) (p : Entry → Bool) (h : List Entry) → EachOfSeat views h → EachOfSeat views (filter p h)
passing_owned views p [] each = tt
passing_owned views p (e ∷ h) each =
    let rest = passing_owned views p h each.1 in
    elim (p e) as (λ t. EachOfSeat views (cond t (e ∷ filter p h) (filter p h))) [ true ↦ (each.0, rest) | false ↦ rest ]

only_owned : (views : List View) (actor : ℕ) (h : List Entry) → EachOfSeat views h → ((e : Entry) → OfSeat views e → Contains h e → e.actor ≡ actor) → OnlyOf actor h
only_owned views actor [] each by = tt
only_owned views actor (e ∷ h) each by =
    (by e each.0 (0, omega arith, refl), only_owned views actor h each.1 (λ d o is. let lt = is.1 in by d o (suc is.0, omega (arith, lt), is.2)))

none_owned : (views : List View) (h : List Entry) → EachOfSeat views h → ((e : Entry) → OfSeat views e → Contains h e → ⊥) → h ≡ []
none_owned views [] each never = refl
none_owned views (e ∷ h) each never = absurd (never e each.0 (0, omega arith, refl))

-- what all seats of a lock have in its history
module _ (w : Whole) (s : State (Option History) View) (g : Keeps w s) where
  -- a seat that never used a number has no entry under it
  no_use : (k : ℕ) (x : View) (n : ℕ) (e : Entry) → get_elem? s.views k ≡ some x → uses n x.mine ≡ [] → e.actor ≡ x.actor → Contains (uses n g.history) e → ⊥
  no_use k x n e at none by is =
      let left : filter (λ (d : Entry). d.actor == x.actor) (uses n g.history) ≡ [] =
      filters (λ (d : Entry). d.actor == x.actor) (λ (d : Entry). is_use_of n d.change) g.history ∙ (ap (uses n) (sym (g.shared.knows k x at).mine) ∙ none) in
      both_ways (e.actor == x.actor) (none_pass (λ (d : Entry). d.actor == x.actor) (uses n g.history) e left is) (eq-eqb e.actor x.actor by)

  module _ (id : ℕ) (v : View) (at : get_elem? s.views id ≡ some v) (on : v.numbers_drawn ≡ true) where
    -- an entry under a number that the seat drew is the seat's
    used_by : (n : ℕ) (e : Entry) → Has v.drawn n → OfSeat s.views e → Contains (uses n g.history) e → e.actor ≡ v.actor
    used_by n e drawn o is =
        let x = o.view in
        elim (cases_eq o.seat id) [
          | inl same ↦ o.actor ∙ ap (λ (y : View). y.actor) (some-injective x v (sym o.at ∙ (ap (get_elem? s.views) same ∙ at)))
          | inr other ↦
              let apart = g.common.apart id o.seat v x at o.at (λ q. other (sym q)) in
              let own = g.numbered.used o.seat x o.at (g.numbered.alike id o.seat v x at o.at ∙ on) in
              absurd (no_use o.seat x n e o.at (not_some (uses n x.mine) (λ some. apart.drawn n drawn (own n some))) o.actor is)
        ]

    pub used_alone : (n : ℕ) → Has v.drawn n → OnlyOf v.actor (uses n g.history)
    used_alone n drawn =
        only_owned s.views v.actor (uses n g.history) (passing_owned s.views (λ (e : Entry). is_use_of n e.change) g.history g.shared.owned) (λ e o is. used_by n e drawn o is)

    -- no number is used that nobody drew
    pub unused_from : (n : ℕ) → g.number ≤ n → uses n g.history ≡ []
    unused_from n le =
        none_owned s.views (uses n g.history) (passing_owned s.views (λ (e : Entry). is_use_of n e.change) g.history g.shared.owned) (λ e o is.
        let x = o.view in
        let own = g.numbered.used o.seat x o.at (g.numbered.alike id o.seat v x at o.at ∙ on) in
        let below = (g.common.fits o.seat x o.at).drawn n in
        no_use o.seat x n e o.at (not_some (uses n x.mine) (λ some. let lt = below (own n some) in absurd (omega (arith, lt, le)))) o.actor is)
