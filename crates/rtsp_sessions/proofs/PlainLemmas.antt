-- Rows as a book.
use Rattle.std.proofs.Common.{◌≡◌, ℕ, ◌+◌, List, length, get_or, sym, ◌∙◌, ap, subst}
use Rattle.std.specs.Prelude.{Option, Some, None, IsSome, option_map, count_by, insert as list_insert, remove as list_remove, set as list_set}
use Rattle.rtsp_sessions.specs.Plain.{InOrder, table_of, Stands, Belongs, Written}
use Rattle.rtsp_sessions.proofs.SortedRows.{inserted, replaced, removed, found, absent}
use Rattle.std.specs.Ordering.{nat_cmp}
use Rattle.std.specs.FinMap.{get, entries, empty, empty_of_len, len-entries, len-empty}
use Rattle.rtsp_record.specs.Tables.{Table}
use Rattle.rtsp_record.specs.declared.holdings.Admission.{Admission}
use Rattle.rtsp_record.specs.Books.{Session, under}
use Rattle.rtsp_record.specs.Sums.{one_if, is_holding, others_holding}
use Rattle.rtsp_record.proofs.Sound.{holding-others}
use Rattle.rtsp_sessions.specs.Lookups.{session_at}

pub count_others : (f g : Session) (a n : ℕ) (es : List (ℕ × Admission)) → f ≡ g → es ≡ entries f.admissions → n ≡ count_by (λ e. is_holding e.1) es → n ≡ others_holding g a + one_if (is_holding (under g a))
count_others f g a n es same is counted =
    counted ∙ ap (count_by (λ (e : ℕ × Admission). is_holding e.1)) (is ∙ ap (λ (f : Session). entries f.admissions) same) ∙ sym (holding-others g a)

pub none_empty : {X : Type 0} (t : Table X) → length (entries t) ≡ 0 → t ≡ empty
none_empty t h = empty_of_len t (len-entries t ∙ h)

pub empty_none : {X : Type 0} (t : Table X) → t ≡ empty → length (entries t) ≡ 0
empty_none {X} t h = ap (λ (t : Table X). length (entries t)) h ∙ sym (len-entries (empty {K = ℕ} {X = X} {R = nat_cmp})) ∙ len-empty nat_cmp X

-- What a change of the list of rows makes of the table, where the list was read through a slice.
module _ {X : Type 0} where
  pub row_none : (es ds : List (ℕ × X)) (k i : ℕ) → InOrder es → ds ≡ es → Belongs k ds i → get (table_of es) k ≡ None
  row_none es ds k i h same at = absent k es i h (subst (λ es. Belongs k es i) same at)

  pub row_some : (es ds : List (ℕ × X)) (k i : ℕ) (d : ℕ × X) → InOrder es → ds ≡ es → Stands k ds i → get (table_of es) k ≡ Some (get_or es i d).1
  row_some es ds k i d h same at = found k es i d h (subst (λ es. Stands k es i) same at)

  pub opened_row : (es ds gs : List (ℕ × X)) (k i : ℕ) (v : ℕ × X) → InOrder es → ds ≡ es → Belongs k ds i → k ≡ v.0 → gs ≡ list_insert es i v → Written es v.0 (Some v.1) gs
  opened_row es ds gs k i v h same at is made = inserted v.0 v.1 es gs i h (subst (λ k. Belongs k es i) is (subst (λ es. Belongs k es i) same at)) made

  pub closed_row : (es ds gs : List (ℕ × X)) (k i : ℕ) → InOrder es → ds ≡ es → Stands k ds i → gs ≡ list_remove es i → Written es k None gs
  closed_row es ds gs k i h same at made = removed k es gs i h (subst (λ es. Stands k es i) same at) made

  pub changed_row : (es ds : List (ℕ × X)) (k i : ℕ) (old new : ℕ × X) (o : Option X) → InOrder es → ds ≡ es → Stands k ds i → old ≡ get_or es i old → new.0 ≡ old.0 → o ≡ Some new.1 → Written es k o (list_set es i new)
  changed_row es ds k i old new o h same at is number made =
      let here = subst (λ es. Stands k es i) same at in
      let own : new.0 ≡ k = number ∙ ap (λ (e : ℕ × X). e.0) is ∙ here.is old in
      subst (λ o. Written es k o (list_set es i new)) (sym made) (replaced k new.1 es (list_set es i new) i h here (λ t. list_set es i (own t, new.1)))

  pub row_missing : (es ds : List (ℕ × X)) (k i : ℕ) → InOrder es → ds ≡ es → Belongs k ds i → IsSome (get (table_of es) k) → ⊥
  row_missing es ds k i h same at there = absurd (cc (there, row_none es ds k i h same at))

pub session_there : (es : List (ℕ × Session)) (k i : ℕ) (v : ℕ × Session) → InOrder es → Stands k es i → v ≡ get_or es i v → Some v ≡ session_at (table_of es) k
session_there es k i v h at is =
    let number : v.0 ≡ k = ap (λ (e : ℕ × Session). e.0) is ∙ at.is v in
    (λ t. Some (number t, v.1)) ∙ sym (ap (option_map (λ f. (k, f))) (found k es i v h at ∙ ap (λ (e : ℕ × Session). Some e.1) (sym is)))
