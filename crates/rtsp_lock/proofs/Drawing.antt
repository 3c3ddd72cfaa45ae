-- Which numbers the seats use, through the steps of the lock.
use Rattle.std.proofs.Common.{◌≡◌, ℕ, zero, suc, Bool, true, List, [], ◌∷◌, ◌++◌, set, refl, ap, sym, ◌∙◌, subst, ⊎_elim}
use mathlib.Core.Option.{some, some-injective, some-ne-none}
use lib.ListN.{get_elem?}
use Rattle.rtsp_record.specs.declared.changes.Entry.{Entry}
use Rattle.rtsp_record.specs.declared.holdings.Whole.{Whole}
use Rattle.rtsp_record.specs.Books.{book_of}
use Rattle.rtsp_lock.specs.declared.view.View.{View}
use Rattle.rtsp_lock.specs.Entries.{Has}
use Rattle.rtsp_lock.specs.Numbers.{UnderThese, UsesDrawn}
use Rattle.rtsp_lock.specs.Rule.{Adds, Forgets, Restates, Leaves, Numbered, first_view}
use Rattle.rtsp_lock.specs.Steps.{settled_with, parent, child}
use Rattle.rtsp_lock.proofs.Views.{each_set, each_snoc}
use Rattle.rtsp_lock.proofs.Histories.{behind, behind_added, behind_ended, behind_restated}
use Rattle.rtsp_lock.proofs.Using.{under_more, under_longer, under_none}
use Rattle.rtsp_lock.proofs.Backing.{backed_left}

-- all are alike where each is like one
alike_to : (views : List View) (b : Bool) → ((k : ℕ) (x : View) → get_elem? views k ≡ some x → x.numbers_drawn ≡ b) → (i k : ℕ) (x y : View) → get_elem? views i ≡ some x → get_elem? views k ≡ some y → y.numbers_drawn ≡ x.numbers_drawn
alike_to views b each i k x y ex ey = each k y ey ∙ sym (each i x ex)

pub numbered_first : (drawn : Bool) (w : Whole) → Numbered [] [] (first_view drawn w ∷ [])
numbered_first drawn w = record {
  alike = alike_to (first_view drawn w ∷ []) drawn (λ k x e. ap (λ (y : View). y.numbers_drawn) (sym (one k x e)));
  used = λ k x e _. subst UsesDrawn (one k x e) (under_none [] [] refl);
  backed = λ n _. refl;
}
  where
    one : (k : ℕ) (x : View) → get_elem? (first_view drawn w ∷ []) k ≡ some x → first_view drawn w ≡ x
    one zero x e = some-injective (first_view drawn w) x e
    one (suc k) x e = absurd (some-ne-none x (sym e))

-- one view changes, and uses drawn numbers as before
pub numbered_set : (h j : List Entry) (views : List View) (id : ℕ) (v u : View) → Numbered h j views → get_elem? views id ≡ some v → u.numbers_drawn ≡ v.numbers_drawn → (UsesDrawn v → UsesDrawn u) → Numbered h j (set views id u)
numbered_set h j views id v u n at same keeps = record {
  alike = alike_to (set views id u) v.numbers_drawn (λ k x e. each_set (λ (y : View). y.numbers_drawn ≡ v.numbers_drawn) views id k u x e (λ _. same) (λ _ there. n.alike id k v x at there));
  used = λ k x e. each_set (λ (y : View). y.numbers_drawn ≡ true → UsesDrawn y) views id k u x e (λ _ on. keeps (n.used id v at (sym same ∙ on))) (λ _ there. n.used k x there);
  backed = n.backed;
}

-- the holder makes a seat, which has made nothing
pub numbered_split : (h j : List Entry) (views : List View) (id : ℕ) (v : View) → Numbered h j views → get_elem? views id ≡ some v → Numbered h j (set views id (parent v) ++ child v ∷ [])
numbered_split h j views id v n at =
    let there = numbered_set h j views id v (parent v) n at refl (λ own. own) in
    let like : (k : ℕ) (x : View) → get_elem? (set views id (parent v)) k ≡ some x → x.numbers_drawn ≡ v.numbers_drawn =
    λ k x e. each_set (λ (y : View). y.numbers_drawn ≡ v.numbers_drawn) views id k (parent v) x e (λ _. refl) (λ _ was. n.alike id k v x at was) in
    record {
      alike = alike_to (set views id (parent v) ++ child v ∷ []) v.numbers_drawn (λ k x e. each_snoc (λ (y : View). y.numbers_drawn ≡ v.numbers_drawn) (set views id (parent v)) k (child v) x e (λ _. refl) (like k x));
      used = λ k x e. each_snoc (λ (y : View). y.numbers_drawn ≡ true → UsesDrawn y) (set views id (parent v)) k (child v) x e (λ _ _. under_none [] [] refl) (there.used k x);
      backed = n.backed;
    }

-- what a holder puts behind what it found is under numbers that it drew
behind_under : (v : View) (j : List Entry) (r : ℕ) → Leaves v j r → v.found ≡ j → v.numbers_drawn ≡ true → UnderThese v.drawn (behind v)
behind_under v j r leaves found on =
    ⊎_elim
    (λ (a : Adds v j r). subst (UnderThese v.drawn) (sym (behind_added v j r a found)) (a.used on))
    (⊎_elim
    (λ (f : Forgets v j r). under_none v.drawn (behind v) (behind_ended v j r f found))
    (λ (c : Restates v j r). under_none v.drawn (behind v) (behind_restated v j r c found)))
    leaves

-- the holder gives the book back, with what it had drawn among these numbers
pub numbered_gives : (d : List ℕ) (h j : List Entry) (r : ℕ) (views : List View) (id : ℕ) (v : View) → Numbered h j views → get_elem? views id ≡ some v → Leaves v j r → v.found ≡ j → book_of h ≡ book_of j → ((x : ℕ) → Has v.drawn x → Has d x)
    → Numbered (h ++ behind v) v.left (set views id (settled_with d v))
numbered_gives d h j r views id v n at leaves found book longer = record {
  alike = alike_to (set views id (settled_with d v)) v.numbers_drawn (λ k x e. each_set (λ (y : View). y.numbers_drawn ≡ v.numbers_drawn) views id k (settled_with d v) x e (λ _. refl) (λ _ there. n.alike id k v x at there));
  used = λ k x e.
      each_set (λ (y : View). y.numbers_drawn ≡ true → UsesDrawn y) views id k (settled_with d v) x e
      (λ _ on.
      under_more d v.mine (behind v) (under_longer v.drawn d v.mine longer (n.used id v at on)) (under_longer v.drawn d (behind v) longer (behind_under v j r leaves found on)))
      (λ _ there. n.used k x there);
  backed = backed_left v h j r leaves found book n.backed;
}
