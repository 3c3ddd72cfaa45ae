-- Rows in ascending order of their numbers: how one is found, written and taken away.
use Rattle.std.proofs.Common.{◌≡◌, ℕ, ◌<◌, ◌≤◌, zero, suc, Bool, true, false, T, ◌&&◌, not, cond, List, [], ◌∷◌, length, get_or, refl, sym, ◌∙◌, ap, subst, arith}
use Rattle.std.specs.Prelude.{Some, None, Result, Ok, Err, IfOk, IfErr, IsTrue, nat_lt, insert as list_insert, remove as list_remove, set as list_set}
use Rattle.std.specs.List.Sorted.{IsSearchInRange, IsBinarySearchResult}
use Rattle.std.proofs.lemmas.Cmp.{ranked}
use Rattle.std.specs.Ordering.{nat_cmp, eq_by_cmp, is_eq, is_lt, ordering_index}
use Rattle.std.specs.Cmp.{nat_cmp_total, alike_right, eq_by_cmp_equiv}
use Rattle.std.specs.declared.cmp.Ordering.TheVariants.{Less, Equal, Greater}
use Rattle.std.specs.FinMap.{get, empty, entries, is_sorted, find, put, get-from_sorted, entries-from_sorted}
use Rattle.std.specs.FinMap.Entries.{by_order, below_all, where_key, is_sorted-put, is_sorted-where_key, find-put, find-where_key}
use Rattle.std.proofs.lemmas.Bool.{ltb-true, ltb-false}
use Rattle.std.proofs.lemmas.Bool.Decides.{nat_tests}
use Rattle.rtsp_record.specs.Tables.{set}
use Rattle.rtsp_record.proofs.Tables.{tied, same_table, get-set, get-none}
use Rattle.rtsp_sessions.specs.Plain.{InOrder, Stands, Belongs, Written, table_of}

pub holds : (b : Bool) → IsTrue b → T b
holds b h = subst T (sym h) tt

pub told : (b : Bool) → T b → IsTrue b
told true h = refl
told false h = absurd h

pub both_parts : (a b : Bool) → T (a && b) → T a × T b
both_parts true b h = (tt, h)
both_parts false b h = absurd h

pub is_less : (a b : ℕ) → a < b → nat_cmp a b ≡ Less
is_less a b h = grind (arith, nat_tests)

pub is_equal : (a b : ℕ) → a ≡ b → nat_cmp a b ≡ Equal
is_equal a b h = grind (arith, nat_tests)

pub is_greater : (a b : ℕ) → b < a → nat_cmp a b ≡ Greater
is_greater a b h = grind (arith, nat_tests)

pub less_is : (a b : ℕ) → T (is_lt (nat_cmp a b)) → a < b
less_is a b h = grind (arith, nat_tests)

-- what a comparison with the same number says rises with the number
pub rank_rises : (a b k : ℕ) → a ≤ b → ordering_index (nat_cmp a k) ≤ ordering_index (nat_cmp b k)
rank_rises a b k h = grind (arith, nat_tests)

pub equal_is : (a b : ℕ) → nat_cmp a b ≡ Equal → a ≡ b
equal_is a b h = grind (arith, nat_tests)

turned_cond : {A : Type 0} (b : Bool) (x y : A) → cond (not b) x y ≡ cond b y x
turned_cond true x y = refl
turned_cond false x y = refl

module _ {X : Type 0} where
  pub get_from : (es : List (ℕ × X)) (q : ℕ) → InOrder es → get (table_of es) q ≡ find nat_cmp q es
  get_from es q h = get-from_sorted nat_cmp es q (holds _ h)

  -- all rows after the first are above it
  above : (k : ℕ) (es : List (ℕ × X)) (j : ℕ) (d : ℕ × X) → T (below_all nat_cmp k es) → j < length es → k < (get_or es j d).0
  above k [] j d h lt = absurd (omega (arith, lt))
  above k (e ∷ es) zero d h lt = less_is k e.0 (both_parts _ _ h).0
  above k (e ∷ es) (suc j) d h lt = above k es j d (both_parts _ _ h).1 (omega (arith, lt))

  -- the numbers rise
  pub rise : (es : List (ℕ × X)) (i j : ℕ) (d : ℕ × X) → T (is_sorted nat_cmp es) → i < j → j < length es → (get_or es i d).0 < (get_or es j d).0
  rise [] i j d h lt within = absurd (omega (arith, within))
  rise (e ∷ es) i zero d h lt within = absurd (omega (arith, lt))
  rise (e ∷ es) zero (suc j) d h lt within = above e.0 es j d (both_parts _ _ h).0 (omega (arith, within))
  rise (e ∷ es) (suc i) (suc j) d h lt within = rise es i j d (both_parts _ _ h).1 (omega (arith, lt)) (omega (arith, within))

  no_greater : (es : List (ℕ × X)) (i j : ℕ) (d : ℕ × X) → T (is_sorted nat_cmp es) → i ≤ j → j < length es → (get_or es i d).0 ≤ (get_or es j d).0
  no_greater es i j d h le within =
      elim (nat_lt i j) as (λ t. nat_lt i j ≡ t → (get_or es i d).0 ≤ (get_or es j d).0) [
        | true ↦ λ is. omega (arith, rise es i j d h (ltb-true i j is) within)
        | false ↦ λ is. let same : i ≡ j = omega (arith, le, ltb-false i j is) in omega (arith, ap (λ n. (get_or es n d).0) same)
      ] refl

  -- the head of a list whose later row has the number is below it
  head_less : (k : ℕ) (e : ℕ × X) (es : List (ℕ × X)) (i : ℕ) → T (is_sorted nat_cmp (e ∷ es)) → Stands k (e ∷ es) (suc i) → e.0 < k
  head_less k e es i h at = omega (arith, rise (e ∷ es) 0 (suc i) e h (omega arith) at.within, at.is e)

  rest_stands : (k : ℕ) (e : ℕ × X) (es : List (ℕ × X)) (i : ℕ) → Stands k (e ∷ es) (suc i) → Stands k es i
  rest_stands k e es i at = record { within = omega (arith, at.within); is = λ d. at.is d }

  rest_belongs : (k : ℕ) (e : ℕ × X) (es : List (ℕ × X)) (i : ℕ) → Belongs k (e ∷ es) (suc i) → Belongs k es i
  rest_belongs k e es i at =
      record {
        within = omega (arith, at.within);
        before = λ j d lt. at.before (suc j) d (omega (arith, lt));
        behind = λ j d le lt. at.behind (suc j) d (omega (arith, le)) (omega (arith, lt));
      }

  -- the row that stands there is the one that is found
  pub find_there : (k : ℕ) (es : List (ℕ × X)) (i : ℕ) (d : ℕ × X) → T (is_sorted nat_cmp es) → Stands k es i → find nat_cmp k es ≡ Some (get_or es i d).1
  find_there k [] i d h at = absurd (omega (arith, at.within))
  find_there k (e ∷ es) zero d h at = ap (λ r. cond (is_eq r) (Some e.1) (find nat_cmp k es)) (is_equal k e.0 (sym (at.is e)))
  find_there k (e ∷ es) (suc i) d h at =
      ap (λ r. cond (is_eq r) (Some e.1) (find nat_cmp k es)) (is_greater k e.0 (head_less k e es i h at))
      ∙ find_there k es i d (both_parts _ _ h).1 (rest_stands k e es i at)

  -- a number that no row has isn't found
  pub find_none : (k : ℕ) (es : List (ℕ × X)) → ((j : ℕ) (d : ℕ × X) → j < length es → (get_or es j d).0 ≡ k → ⊥) → find nat_cmp k es ≡ None
  find_none k [] h = refl
  find_none k (e ∷ es) h =
      elim (eq_by_cmp nat_cmp k e.0) as (λ t. eq_by_cmp nat_cmp k e.0 ≡ t → cond t (Some e.1) (find nat_cmp k es) ≡ None) [
        | true ↦ λ is. absurd (h 0 e (omega arith) (same k e.0 is))
        | false ↦ λ _. find_none k es (λ j d lt is. h (suc j) d (omega (arith, lt)) is)
      ] refl
    where
      same : (a b : ℕ) → eq_by_cmp nat_cmp a b ≡ true → b ≡ a
      same a b h = grind (arith, nat_tests)

  pub find_absent : (k : ℕ) (es : List (ℕ × X)) (i : ℕ) → Belongs k es i → find nat_cmp k es ≡ None
  find_absent k es i at =
      find_none k es (λ j d lt is. apart j d lt is (at.before j d) (at.behind j d))
    where
      apart : (j : ℕ) (d : ℕ × X) → j < length es → (get_or es j d).0 ≡ k → (j < i → (get_or es j d).0 < k) → (i ≤ j → j < length es → k < (get_or es j d).0) → ⊥
      apart j d lt is one two = grind arith

  -- a row in its place
  insert_row : (k : ℕ) (x : X) (es : List (ℕ × X)) (i : ℕ) → Belongs k es i → list_insert es i (k, x) ≡ put nat_cmp k x es
  insert_row k x [] zero at = refl
  insert_row k x [] (suc i) at = absurd (omega (arith, at.within))
  insert_row k x (e ∷ es) zero at =
      sym (ap (λ r. by_order r ((k, x) ∷ e ∷ es) ((e.0, x) ∷ es) (e ∷ put nat_cmp k x es)) (is_less k e.0 (at.behind 0 e (omega arith) (omega arith))))
  insert_row k x (e ∷ es) (suc i) at =
      ap (λ r. e ∷ r) (insert_row k x es i (rest_belongs k e es i at))
      ∙ sym (ap (λ r. by_order r ((k, x) ∷ e ∷ es) ((e.0, x) ∷ es) (e ∷ put nat_cmp k x es)) (is_greater k e.0 (at.before 0 e (omega arith))))

  -- another row for the same number
  set_row : (k : ℕ) (x : X) (es : List (ℕ × X)) (i : ℕ) → T (is_sorted nat_cmp es) → Stands k es i → list_set es i (k, x) ≡ put nat_cmp k x es
  set_row k x [] i h at = absurd (omega (arith, at.within))
  set_row k x (e ∷ es) zero h at =
      ap (λ q. (q, x) ∷ es) (sym (at.is e))
      ∙ sym (ap (λ r. by_order r ((k, x) ∷ e ∷ es) ((e.0, x) ∷ es) (e ∷ put nat_cmp k x es)) (is_equal k e.0 (sym (at.is e))))
  set_row k x (e ∷ es) (suc i) h at =
      ap (λ r. e ∷ r) (set_row k x es i (both_parts _ _ h).1 (rest_stands k e es i at))
      ∙ sym (ap (λ r. by_order r ((k, x) ∷ e ∷ es) ((e.0, x) ∷ es) (e ∷ put nat_cmp k x es)) (is_greater k e.0 (head_less k e es i h at)))

  all_others : (k m : ℕ) (es : List (ℕ × X)) → k ≤ m → T (below_all nat_cmp m es) → where_key nat_cmp (λ q. not (eq_by_cmp nat_cmp k q)) es ≡ es
  all_others k m [] le h = refl
  all_others k m (e ∷ es) le h =
      let parts = both_parts _ _ h in
      let lt : m < e.0 = less_is m e.0 parts.0 in
      ap (λ r. cond (not (is_eq r)) (e ∷ where_key nat_cmp (λ q. not (eq_by_cmp nat_cmp k q)) es) (where_key nat_cmp (λ q. not (eq_by_cmp nat_cmp k q)) es)) (is_less k e.0 (omega (arith, lt, le)))
      ∙ ap (λ r. e ∷ r) (all_others k m es le parts.1)

  -- without the row
  remove_row : (k : ℕ) (es : List (ℕ × X)) (i : ℕ) → T (is_sorted nat_cmp es) → Stands k es i → list_remove es i ≡ where_key nat_cmp (λ q. not (eq_by_cmp nat_cmp k q)) es
  remove_row k [] i h at = absurd (omega (arith, at.within))
  remove_row k (e ∷ es) zero h at =
      let same = at.is e in
      sym (ap (λ r. cond (not (is_eq r)) (e ∷ where_key nat_cmp (λ q. not (eq_by_cmp nat_cmp k q)) es) (where_key nat_cmp (λ q. not (eq_by_cmp nat_cmp k q)) es)) (is_equal k e.0 (sym same)) ∙ all_others k e.0 es (omega (arith, same)) (both_parts _ _ h).0)
  remove_row k (e ∷ es) (suc i) h at =
      ap (λ r. e ∷ r) (remove_row k es i (both_parts _ _ h).1 (rest_stands k e es i at))
      ∙ sym (ap (λ r. cond (not (is_eq r)) (e ∷ where_key nat_cmp (λ q. not (eq_by_cmp nat_cmp k q)) es) (where_key nat_cmp (λ q. not (eq_by_cmp nat_cmp k q)) es)) (is_greater k e.0 (head_less k e es i h at)))

  pub in_order_put : (k : ℕ) (x : X) (es gs : List (ℕ × X)) → InOrder es → gs ≡ put nat_cmp k x es → InOrder gs
  in_order_put k x es gs h is = told _ (subst (λ es. T (is_sorted nat_cmp es)) (sym is) (is_sorted-put nat_cmp nat_cmp_total k x es (holds _ h)))

  table_put : (k : ℕ) (x : X) (es gs : List (ℕ × X)) → InOrder es → gs ≡ put nat_cmp k x es → table_of gs ≡ set (table_of es) k (Some x)
  table_put k x es gs h is =
      same_table _ _ (λ q.
      get_from gs q (in_order_put k x es gs h is)
      ∙ ap (find nat_cmp q) is
      ∙ find-put nat_cmp nat_cmp_total q k x es
      ∙ ap (cond (tied q k) (Some x)) (sym (get_from es q h))
      ∙ sym (get-set (table_of es) k q (Some x)))

  in_order_cut : (k : ℕ) (es gs : List (ℕ × X)) → InOrder es → gs ≡ where_key nat_cmp (λ q. not (eq_by_cmp nat_cmp k q)) es → InOrder gs
  in_order_cut k es gs h is = told _ (subst (λ es. T (is_sorted nat_cmp es)) (sym is) (is_sorted-where_key nat_cmp (λ q. not (eq_by_cmp nat_cmp k q)) es (holds _ h)))

  table_cut : (k : ℕ) (es gs : List (ℕ × X)) → InOrder es → gs ≡ where_key nat_cmp (λ q. not (eq_by_cmp nat_cmp k q)) es → table_of gs ≡ set (table_of es) k None
  table_cut k es gs h is =
      same_table _ _ (λ q.
      get_from gs q (in_order_cut k es gs h is)
      ∙ ap (find nat_cmp q) is
      ∙ find-where_key nat_cmp (λ q. not (eq_by_cmp nat_cmp k q)) q (λ x t. ap (λ r. not (is_eq r)) (sym (alike_right nat_cmp_total q x k t))) es
      ∙ turned_cond (eq_by_cmp nat_cmp k q) (find nat_cmp q es) None
      ∙ ap (λ b. cond b None (find nat_cmp q es)) ((eq_by_cmp_equiv nat_cmp_total).symm k q)
      ∙ ap (cond (tied q k) None) (sym (get_from es q h))
      ∙ sym (get-set (table_of es) k q None))

  pub inserted : (k : ℕ) (x : X) (es gs : List (ℕ × X)) (i : ℕ) → InOrder es → Belongs k es i → gs ≡ list_insert es i (k, x) → Written es k (Some x) gs
  inserted k x es gs i h at is =
      let put = is ∙ insert_row k x es i at in
      record { in_order = in_order_put k x es gs h put; table = table_put k x es gs h put }

  pub replaced : (k : ℕ) (x : X) (es gs : List (ℕ × X)) (i : ℕ) → InOrder es → Stands k es i → gs ≡ list_set es i (k, x) → Written es k (Some x) gs
  replaced k x es gs i h at is =
      let put = is ∙ set_row k x es i (holds _ h) at in
      record { in_order = in_order_put k x es gs h put; table = table_put k x es gs h put }

  pub removed : (k : ℕ) (es gs : List (ℕ × X)) (i : ℕ) → InOrder es → Stands k es i → gs ≡ list_remove es i → Written es k None gs
  removed k es gs i h at is =
      let cut = is ∙ remove_row k es i (holds _ h) at in
      record { in_order = in_order_cut k es gs h cut; table = table_cut k es gs h cut }

  -- a binary search by number ends at the row, or where it would stand
  pub searched : (k : ℕ) (es : List (ℕ × X)) (r : Result ℕ ℕ) → InOrder es → IsSearchInRange r (length es) → IsBinarySearchResult (λ e. nat_cmp e.0 k) es r
      → record { found : IfOk r (Stands k es); absent : IfErr r (Belongs k es) }
  searched k es (Ok i) h within equal = record { found = record { within = within; is = λ d. equal_is _ k (equal d) }; absent = tt }
  searched k es (Err i) h within parted =
      let rising = λ (a b : ℕ) (d : ℕ × X) (le : a ≤ b) (lt : b < length es). rank_rises (get_or es a d).0 (get_or es b d).0 k (no_greater es a b d (holds _ h) le lt) in
      record {
        found = tt;
        absent = record {
          within = within;
          before = λ j d lt. ranked _ k _ (sym ((parted rising).0 j d (omega arith) lt));
          behind = λ j d le lt. ranked _ k _ (sym ((parted rising).1 j d le lt));
        };
      }

  pub found : (k : ℕ) (es : List (ℕ × X)) (i : ℕ) (d : ℕ × X) → InOrder es → Stands k es i → get (table_of es) k ≡ Some (get_or es i d).1
  found k es i d h at = get_from es k h ∙ find_there k es i d (holds _ h) at

  pub absent : (k : ℕ) (es : List (ℕ × X)) (i : ℕ) → InOrder es → Belongs k es i → get (table_of es) k ≡ None
  absent k es i h at = get_from es k h ∙ find_absent k es i at

  pub no_rows : table_of [] ≡ empty {K = ℕ} {X = X} {R = nat_cmp}
  no_rows = same_table _ _ (λ q. get_from [] q refl ∙ sym (get-none q))

  pub entries_of : (es : List (ℕ × X)) → InOrder es → entries (table_of es) ≡ es
  entries_of es h = entries-from_sorted nat_cmp es (holds _ h)
