-- The only seat of a lock.
use Rattle.std.proofs.Common.{◌≡◌, ℕ, zero, suc, Bool, true, List, [], ◌∷◌, ◌++◌, length, set, refl, ap, sym, ◌∙◌, arith, length-set, true≢false}
use mathlib.Core.Option.{some, some-injective, some-ne-none}
use lib.ListN.{get_elem?}
use Rattle.rtsp_record.specs.declared.changes.Entry.{Entry}
use Rattle.rtsp_record.specs.declared.holdings.Whole.{Whole}
use Rattle.rtsp_lock.specs.declared.view.View.{View}
use Rattle.rtsp_lock.specs.Rule.{OnlySeat, EachAlone, first_view}
use Rattle.rtsp_lock.specs.Steps.{settled_with, parent, child}
use Rattle.rtsp_lock.proofs.Views.{each_set, each_snoc}

-- where there is one view, it is at one place
one_place : (views : List View) (i k : ℕ) (x y : View) → length views ≡ 1 → get_elem? views i ≡ some x → get_elem? views k ≡ some y → i ≡ k
one_place [] i k x y one ex ey = absurd (some-ne-none x (sym ex))
one_place (z ∷ []) zero zero x y one ex ey = refl
one_place (z ∷ []) zero (suc k) x y one ex ey = absurd (some-ne-none y (sym ey))
one_place (z ∷ []) (suc i) k x y one ex ey = absurd (some-ne-none x (sym ex))
one_place (z ∷ t ∷ zs) i k x y one ex ey = absurd (omega (arith, one))

pub alone_first : (drawn : Bool) (w : Whole) → EachAlone [] (first_view drawn w ∷ [])
alone_first drawn w zero v e _ = record { one = refl; seen = λ _. ap (λ (x : View). x.seen) (sym (some-injective (first_view drawn w) v e)) }
alone_first drawn w (suc k) v e _ = absurd (some-ne-none v (sym e))

-- a holder's view changes
pub alone_set : (j : List Entry) (views : List View) (id : ℕ) (v u : View) → EachAlone j views → get_elem? views id ≡ some v → u.alone ≡ v.alone → u.holds ≡ true → EachAlone j (set views id u)
alone_set j views id v u all at same holds k x e =
    each_set (λ (y : View). y.alone ≡ true → OnlySeat j (set views id u) y) views id k u x e
    (λ _ a. record { one = length-set views id u ∙ (all id v at (sym same ∙ a)).one; seen = λ no. absurd (true≢false (sym holds ∙ no)) })
    (λ _ there a. let o = all k x there a in record { one = length-set views id u ∙ o.one; seen = o.seen })

-- the holder gives the book back, and has seen what it left
pub alone_gives : (d : List ℕ) (j : List Entry) (views : List View) (id : ℕ) (v : View) → EachAlone j views → get_elem? views id ≡ some v → EachAlone v.left (set views id (settled_with d v))
alone_gives d j views id v all at k x e =
    each_set (λ (y : View). y.alone ≡ true → OnlySeat v.left (set views id (settled_with d v)) y) views id k (settled_with d v) x e
    (λ _ a. record { one = length-set views id (settled_with d v) ∙ (all id v at a).one; seen = λ _. refl })
    (λ apart there a. absurd (apart (one_place views k id x v (all k x there a).one there at)))

-- where another seat is made, none is alone
pub alone_split : (j : List Entry) (views : List View) (id : ℕ) (v : View) → EachAlone j views → get_elem? views id ≡ some v → EachAlone j (set views id (parent v) ++ child v ∷ [])
alone_split j views id v all at k x e =
    let After = λ (y : View). y.alone ≡ true → OnlySeat j (set views id (parent v) ++ child v ∷ []) y in
    each_snoc After (set views id (parent v)) k (child v) x e (λ _ a. absurd (true≢false (sym a)))
    (λ before. each_set After views id k (parent v) x before (λ _ a. absurd (true≢false (sym a))) (λ apart there a. absurd (apart (one_place views k id x v (all k x there a).one there at))))
