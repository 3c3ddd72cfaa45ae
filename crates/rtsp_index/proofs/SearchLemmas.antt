-- The first row of a book that passes is the least number that passes.
use Rattle.std.proofs.Common.{◌≡◌, ℕ, ◌<◌, ◌≤◌, Bool, true, false, T, cond, List, [], ◌∷◌, refl, sym, ◌∙◌, ap, subst, arith}
use Rattle.std.specs.Prelude.{Option, Some, None, IfSome, option_map}
use Rattle.std.specs.Ordering.{nat_cmp}
use Rattle.std.specs.FinMap.{entries, find, is_sorted, get-entries, entries_sorted}
use Rattle.std.specs.FinMap.Entries.{below_all}
use Rattle.rtsp_record.specs.Books.{Session, Book}
use Rattle.rtsp_record.proofs.Tables.{at_key}
use Rattle.rtsp_sessions.specs.Searches.{first_with}
use Rattle.rtsp_sessions.specs.Lookups.{number_of}
use Rattle.rtsp_sessions.proofs.FirstRows.{first_found, first_passes, none_passes}
use Rattle.rtsp_sessions.proofs.SortedRows.{both_parts, less_is}
use Rattle.rtsp_index.specs.Searching.{Passes, AtMost}

-- a number that is found is above those that all rows are above
find_above : (k : ℕ) (es : List (ℕ × Session)) (s : ℕ) (f : Session) → T (below_all nat_cmp k es) → find nat_cmp s es ≡ Some f → k < s
find_above k [] s f h at = absurd cc
find_above k (e ∷ es) s f h at =
    let parts = both_parts _ _ h in
    at_key e.0 s (λ t. cond t (Some e.1) (find nat_cmp s es) ≡ Some f → k < s)
    (λ _ same _. subst (λ n. k < n) (sym same) (less_is k e.0 parts.0))
    (λ _ more. find_above k es s f parts.1 more)
    at

-- no number that passes is less than the first
first_least : (p : ℕ × Session → Bool) (es : List (ℕ × Session)) (v : ℕ × Session) (s : ℕ) (f : Session) → T (is_sorted nat_cmp es) → first_with p es ≡ Some v → find nat_cmp s es ≡ Some f → p (s, f) ≡ true → v.0 ≤ s
first_least p [] v s f h is at on = absurd cc
first_least p (e ∷ es) v s f h is at on =
    elim (p e) as (λ t. p e ≡ t → cond t (Some e) (first_with p es) ≡ Some v → v.0 ≤ s) [
      | true ↦ λ _ is.
          let same : e ≡ v = cc in
          subst (λ (v : ℕ × Session). v.0 ≤ s) same
          (at_key e.0 s (λ t. cond t (Some e.1) (find nat_cmp s es) ≡ Some f → e.0 ≤ s) (λ _ here _. omega (arith, here)) (λ _ more. omega (arith, find_above e.0 es s f (both_parts _ _ h).0 more)) at)
      | false ↦ λ off is.
          at_key e.0 s (λ t. cond t (Some e.1) (find nat_cmp s es) ≡ Some f → v.0 ≤ s)
          (λ _ here own.
          let value : e.1 ≡ f = cc in
          let whole : e ≡ (s, f) = λ t. (sym here t, value t) in
          let bad = sym off ∙ ap p whole ∙ on in absurd cc)
          (λ _ more. first_least p es v s f (both_parts _ _ h).1 is more on)
          at
    ] refl is

same_number : (s t : ℕ) → s ≤ t → t ≤ s → s ≡ t
same_number s t one two = omega (arith, one, two)

-- the least number that passes is the number of the first row that does
pub least_number : (b : Book) (p : ℕ × Session → Bool) (o : Option ℕ) → IfSome o (Passes p b) → ((s : ℕ) → Passes p b s → AtMost o s) → o ≡ number_of p (entries b)
least_number b p o found least =
    elim (first_with p (entries b)) as (λ v. first_with p (entries b) ≡ v → o ≡ option_map (λ e. e.0) v) [
      | None ↦ λ none. no_number o found none
      | Some v ↦ λ is.
          let there = get-entries b v.0 ∙ first_found p (entries b) v (entries_sorted b) is in
          this_number o v found is (least v.0 (v.1, there, first_passes p (entries b) v is))
    ] refl
  where
    no_number : (o : Option ℕ) → IfSome o (Passes p b) → first_with p (entries b) ≡ None → o ≡ None
    no_number None h none = refl
    no_number (Some s) h none =
        let bad = sym (none_passes p (entries b) s h.0 none (sym (get-entries b s) ∙ h.1)) ∙ h.2 in absurd cc

    this_number : (o : Option ℕ) (v : ℕ × Session) → IfSome o (Passes p b) → first_with p (entries b) ≡ Some v → AtMost o v.0 → o ≡ Some v.0
    this_number None v h is le = absurd le
    this_number (Some s) v h is le = ap (λ n. Some n) (same_number s v.0 le (first_least p (entries b) v s h.0 (entries_sorted b) is (sym (get-entries b s) ∙ h.1) h.2))

-- the one number that passes
pub only_number : (b : Book) (p : ℕ × Session → Bool) (o : Option ℕ) → ((s : ℕ) → o ≡ Some s → Passes p b s) → ((s : ℕ) → Passes p b s → o ≡ Some s) → o ≡ number_of p (entries b)
only_number b p o found only = least_number b p o (there o found) (λ s h. at_most o s (only s h))
  where
    there : (o : Option ℕ) → ((s : ℕ) → o ≡ Some s → Passes p b s) → IfSome o (Passes p b)
    there None h = tt
    there (Some s) h = h s refl

    at_most : (o : Option ℕ) (s : ℕ) → o ≡ Some s → AtMost o s
    at_most None s h = absurd cc
    at_most (Some n) s h = let same : n ≡ s = cc in omega (arith, same)
