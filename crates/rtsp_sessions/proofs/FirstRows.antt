-- The first of the rows that passes, where rows are in ascending order of their numbers.
use Rattle.std.proofs.Common.{◌≡◌, ℕ, Bool, true, false, T, cond, List, [], ◌∷◌, refl, sym, ◌∙◌, ap}
use Rattle.std.specs.Prelude.{Some, None}
use Rattle.std.proofs.lemmas.Option.{none-some}
use Rattle.std.specs.Ordering.{nat_cmp, is_eq, is_lt}
use Rattle.std.specs.declared.cmp.Ordering.{Ordering}
use Rattle.std.specs.declared.cmp.Ordering.TheVariants.{Less}
use Rattle.std.specs.FinMap.{find, is_sorted}
use Rattle.std.specs.FinMap.Entries.{below_all}
use Rattle.rtsp_record.proofs.Tables.{own, at_key}
use Rattle.rtsp_sessions.specs.Searches.{first_with}
use Rattle.rtsp_sessions.proofs.SortedRows.{both_parts}

not_eq : (r : Ordering) → T (is_lt r) → is_eq r ≡ false
not_eq Less h = refl
not_eq r h = absurd h

module _ {X : Type 0} where
  pub sorted_parts : (e : ℕ × X) (es : List (ℕ × X)) → T (is_sorted nat_cmp (e ∷ es)) → T (below_all nat_cmp e.0 es) × T (is_sorted nat_cmp es)
  sorted_parts e es h = both_parts _ _ h

  -- a number below all isn't found
  pub below_none : (k : ℕ) (es : List (ℕ × X)) → T (below_all nat_cmp k es) → find nat_cmp k es ≡ None
  below_none k [] h = refl
  below_none k (e ∷ es) h =
      let parts = both_parts _ _ h in
      ap (λ t. cond t (Some e.1) (find nat_cmp k es)) (not_eq (nat_cmp k e.0) parts.0) ∙ below_none k es parts.1

  -- the first that passes does
  pub first_passes : (p : ℕ × X → Bool) (es : List (ℕ × X)) (e : ℕ × X) → first_with p es ≡ Some e → p e ≡ true
  first_passes p [] e h = absurd cc
  first_passes p (x ∷ es) e h =
      elim (p x) as (λ t. p x ≡ t → cond t (Some x) (first_with p es) ≡ Some e → p e ≡ true) [
        | true ↦ λ is h. let same : x ≡ e = cc in sym (ap p same) ∙ is
        | false ↦ λ _ h. first_passes p es e h
      ] refl h

  -- and stands at its number
  pub first_found : (p : ℕ × X → Bool) (es : List (ℕ × X)) (e : ℕ × X) → T (is_sorted nat_cmp es) → first_with p es ≡ Some e → find nat_cmp e.0 es ≡ Some e.1
  first_found p [] e sorted h = absurd cc
  first_found p (x ∷ es) e sorted h =
      let parts = sorted_parts x es sorted in
      elim (p x) as (λ t. cond t (Some x) (first_with p es) ≡ Some e → find nat_cmp e.0 (x ∷ es) ≡ Some e.1) [
        | true ↦ λ h. let same : x ≡ e = cc in ap (λ (e : ℕ × X). find nat_cmp e.0 (x ∷ es)) (sym same) ∙ ap (λ t. cond t (Some x.1) (find nat_cmp x.0 es)) (own x.0) ∙ ap (λ (e : ℕ × X). Some e.1) same
        | false ↦ λ h.
            let there = first_found p es e parts.1 h in
            at_key x.0 e.0 (λ t. cond t (Some x.1) (find nat_cmp e.0 es) ≡ Some e.1) (λ _ same. absurd (none-some e.1 (sym (below_none x.0 es parts.0) ∙ sym (ap (λ k. find nat_cmp k es) same) ∙ there))) (λ _. there)
      ] h

  -- where none is first, none that stands at a number passes
  pub none_passes : (p : ℕ × X → Bool) (es : List (ℕ × X)) (k : ℕ) (x : X) → first_with p es ≡ None → find nat_cmp k es ≡ Some x → p (k, x) ≡ false
  none_passes p [] k x none there = absurd cc
  none_passes p (e ∷ es) k x none there =
      elim (p e) as (λ t. p e ≡ t → cond t (Some e) (first_with p es) ≡ None → p (k, x) ≡ false) [
        | true ↦ λ _ some. absurd cc
        | false ↦ λ fails rest.
            at_key e.0 k (λ t. cond t (Some e.1) (find nat_cmp k es) ≡ Some x → p (k, x) ≡ false)
            (λ _ key here. let row : e.1 ≡ x = cc in ap (λ (k : ℕ). p (k, x)) key ∙ (ap (λ (x : X). p (e.0, x)) (sym row) ∙ fails))
            (λ _ later. none_passes p es k x rest later)
            there
      ] refl none
