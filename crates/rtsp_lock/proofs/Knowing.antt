-- Each step of the lock keeps its rule, and what the seats know of their numbers.
use Rattle.std.proofs.Common.{◌≡◌, ℕ, ◌≤◌, ◌<◌, Bool, true, eqb, set, [], ◌∷◌, refl, ap, ◌∙◌, inl, inr, Option, Some}
use Rattle.std.proofs.lemmas.Bool.{cases_eq}
use mathlib.Core.Option.{some, none}
use prog.Atomic.{either}
use Rattle.atomic_table.specs.Table.{Me, step, rest, Allows, Splits, opening}
use Rattle.rtsp_record.specs.declared.holdings.Whole.{Whole}
use Rattle.rtsp_record.specs.Rules.{IsLegal}
use Rattle.rtsp_book.specs.Kept.{History, history}
use Rattle.rtsp_lock.specs.declared.view.View.{View}
use Rattle.rtsp_lock.specs.Rule.{Leaves, Keeps, KeepsTo, first_view}
use Rattle.rtsp_lock.specs.Steps.{noting, parent, child, taken, noted, given, given_undrawn}
use Rattle.rtsp_lock.proofs.Views.{each_set, each_snoc}
use Rattle.rtsp_lock.proofs.Keeping.{IsTaking}
use Rattle.rtsp_lock.proofs.Keeping as keeping

-- the first seat knows what all of its lock may use
pub starts : (drawn : Bool) (w : Whole) → KeepsTo drawn w (opening (0 ∷ []) (Some (history w [] 1 0) ∷ []) (first_view drawn w))
starts drawn w = record {
  keeps = keeping.starts drawn w;
  known = λ k v e. keeping.one_first drawn w (λ (x : View). x.numbers_drawn ≡ drawn) refl k v e;
}

-- a step after which its seat knows of that what it knew
keeps_known : (drawn : Bool) (w : Whole) (slots id : ℕ) (m : Me (Option History) View) (f : ℕ → ℕ) (then : ℕ → Me (Option History) View → Type 0)
    → (m.0.numbers_drawn ≡ drawn → Allows (Keeps w) slots id m 0 f then)
    → ((n : ℕ) (m' : Me (Option History) View) → then n m' → m'.0.numbers_drawn ≡ m.0.numbers_drawn)
    → Allows (KeepsTo drawn w) slots id m 0 f then
keeps_known drawn w slots id m f then allows same s g wide at lt =
    let known = g.known id m.0 at in
    let a = allows known s g.keeps wide at lt in (
      a.0,
      a.1,
      a.2,
      record { keeps = a.3; known = λ k x e. each_set (λ (y : View). y.numbers_drawn ≡ drawn) s.views id k a.0 x e (λ _. same _ _ a.4 ∙ known) (λ _ there. g.known k x there) },
      a.4,
    )

pub takes_it : (drawn : Bool) (w : Whole) (slots id : ℕ) (m : Me (Option History) View) (f : ℕ → ℕ) → IsTaking f → Allows (KeepsTo drawn w) slots id m 0 f (taken (step slots 0 0 0 none) m)
takes_it drawn w slots id m f is =
    keeps_known drawn w slots id m f (taken (step slots 0 0 0 none) m) (λ _. keeping.takes_it w slots id m f is) (λ n m' told. elim (cases_eq n 0) [
      | inl free ↦ ap (λ (x : View). x.numbers_drawn) (told.0 free).view
      | inr held ↦ ap (λ (x : Me (Option History) View). x.0.numbers_drawn) (told.1 held)
    ])

-- the holder notes what it will put back, which it may where its seat uses numbers as the lock's seats do
pub notes_it : (drawn : Bool) (w : Whole) (slots id : ℕ) (m : Me (Option History) View) (value : History) → m.0.holds ≡ true → (m.0.numbers_drawn ≡ drawn → Leaves (noting m.0 value.journal value.next value.rounds) m.0.found m.0.found_rounds) → m.0.next ≤ value.next
    → Allows (KeepsTo drawn w) slots id m 0 (λ n. either (eqb n 1) 1 n) (noted (step slots 0 1 1 (some (Some value))) m)
notes_it drawn w slots id m value holds leaves up =
    keeps_known drawn w slots id m (λ n. either (eqb n 1) 1 n) (noted (step slots 0 1 1 (some (Some value))) m) (λ known. keeping.notes_it w slots id m value holds (leaves known) up) (λ n m' told. ap (λ (x : Me (Option History) View). x.0.numbers_drawn) told)

pub gives_as : (drawn : Bool) (w : Whole) (slots id : ℕ) (m : Me (Option History) View) → slots ≡ 1 → m.0.holds ≡ true → IsLegal m.0.whole m.0.left → m.1 ≡ (0, Some (history m.0.whole m.0.left m.0.left_next m.0.left_rounds)) ∷ rest m.1
    → Allows (KeepsTo drawn w) slots id m 0 (λ _. 0) (given (step slots 0 0 0 none) m)
gives_as drawn w slots id m one holds legal value =
    keeps_known drawn w slots id m (λ _. 0) (given (step slots 0 0 0 none) m) (λ _. keeping.gives_as w slots id m one holds legal value) (λ n m' told. ap (λ (x : Me (Option History) View). x.0.numbers_drawn) told)

pub gives_undrawn : (drawn : Bool) (w : Whole) (slots id : ℕ) (m : Me (Option History) View) → slots ≡ 1 → m.0.holds ≡ true → IsLegal m.0.whole m.0.left → m.1 ≡ (0, Some (history m.0.whole m.0.left m.0.left_next m.0.left_rounds)) ∷ rest m.1
    → Allows (KeepsTo drawn w) slots id m 0 (λ _. 0) (given_undrawn (step slots 0 0 0 none) m)
gives_undrawn drawn w slots id m one holds legal value =
    keeps_known drawn w slots id m (λ _. 0) (given_undrawn (step slots 0 0 0 none) m) (λ _. keeping.gives_undrawn w slots id m one holds legal value) (λ n m' told. ap (λ (x : Me (Option History) View). x.0.numbers_drawn) told)

-- so does the seat that is made
pub splits_it : (drawn : Bool) (w : Whole) (id : ℕ) (v : View) → v.holds ≡ true → v.next < v.left_next → (v.left ≡ v.found) × (v.left_rounds ≡ v.found_rounds) → Splits (KeepsTo drawn w) id v (parent v) (child v)
splits_it drawn w id v holds room unchanged s g at =
    let known = g.known id v at in
    record {
      keeps = keeping.splits_it w id v holds room unchanged s g.keeps at;
      known = λ k x e.
          each_snoc (λ (y : View). y.numbers_drawn ≡ drawn) (set s.views id (parent v)) k (child v) x e (λ _. known)
          (λ before. each_set (λ (y : View). y.numbers_drawn ≡ drawn) s.views id k (parent v) x before (λ _. known) (λ _ there. g.known k x there));
    }
