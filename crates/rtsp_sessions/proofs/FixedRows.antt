-- The first of the rows of an array: how one is replaced, taken away and put between.
use Rattle.std.proofs.Common.{◌⊎◌, inl, inr, ◌≡◌, ℕ, ◌+◌, ◌-◌, ◌<◌, ◌≤◌, suc, List, [], ◌∷◌, ◌++◌, length, take, drop, set, refl, sym, ◌∙◌, ap, subst, arith}
use Rattle.std.specs.Prelude.{Option, Some, None, IsSome}
use Rattle.std.specs.FinMap.{get, entries}
use Rattle.rtsp_record.specs.Tables.{Table}
use Rattle.rtsp_sessions.specs.Plain.{InOrder, Stands, Belongs, Written, table_of}
use Rattle.rtsp_sessions.proofs.SortedRows.{inserted, replaced, removed, absent, entries_of}
use Rattle.std.specs.List.{insert, remove, copy_within}
use Rattle.std.proofs.lemmas.List.{take-take, drop-take, length-take-le, length-take, length-drop, set_split, set-append_left, drop_all}
use Rattle.std.proofs.lemmas.List.Edits.{take-paste}

module _ {X : Type 0} where
  pub first_set : (n : ℕ) (xs : List X) (i : ℕ) (x : X) → take n (set xs i x) ≡ set (take n xs) i x
  first_set (suc n) (y ∷ xs) (suc i) x = ap (λ r. y ∷ r) (first_set n xs i x)
  first_set n xs i x = refl

  pub first_removed : (n : ℕ) (xs : List X) (i : ℕ) → i < n → n ≤ length xs → take (n - 1) (copy_within xs (i + 1) n i) ≡ remove (take n xs) i
  first_removed n xs i lt le =
      let m = n - (i + 1) in
      let size : n - 1 ≡ i + m = omega arith in
      let whole : n ≡ suc i + m = omega arith in
      let next : i + 1 ≡ suc i = omega arith in
      ap (λ k. take k (copy_within xs (i + 1) n i)) size
      ∙ take-paste xs i (drop (i + 1) xs) m (omega arith) (omega (arith, length-drop (i + 1) xs))
      ∙ (λ t. sym (take-take i n xs (omega arith)) t ++ take m (drop (next t) xs))
      ∙ (λ t. take i (take n xs) ++ (sym (drop-take (suc i) m xs) ∙ ap (λ k. drop (suc i) (take k xs)) (sym whole)) t)

  pub first_inserted : (n : ℕ) (xs : List X) (i : ℕ) (x : X) → i ≤ n → n < length xs → take (n + 1) (set (copy_within xs i n (i + 1)) i x) ≡ insert (take n xs) i x
  first_inserted n xs i x le lt =
      let m = n - i in
      let size : n + 1 ≡ (i + 1) + m = omega arith in
      let whole : n ≡ i + m = omega arith in
      let front = take (i + 1) xs in
      let back = take m (drop i xs) in
      let long : length front ≡ i + 1 = length-take-le (i + 1) xs (omega arith) in
      let next : suc i ≡ i + 1 = omega arith in
      first_set (n + 1) (copy_within xs i n (i + 1)) i x
      ∙ ap (λ r. set r i x) (ap (λ k. take k (copy_within xs i n (i + 1))) size ∙ take-paste xs (i + 1) (drop i xs) m (omega arith) (omega (arith, length-drop i xs)))
      ∙ set-append_left front back i x (omega (arith, long))
      ∙ ap (λ r. r ++ back) (set_split front i x (omega (arith, long)) ∙ (λ t. (take-take i (i + 1) xs (omega arith) ∙ sym (take-take i n xs (omega arith))) t ++ x ∷ no_more t))
      ∙ joined x (take i (take n xs)) back
      ∙ (λ t. take i (take n xs) ++ x ∷ (sym (drop-take i m xs) ∙ ap (λ k. drop i (take k xs)) (sym whole)) t)
    where
      no_more : drop (suc i) (take (i + 1) xs) ≡ []
      no_more = drop_all (suc i) (take (i + 1) xs) (omega (arith, length-take-le (i + 1) xs (omega arith)))

      joined : (x : X) (a b : List X) → (a ++ x ∷ []) ++ b ≡ a ++ x ∷ b
      joined x [] b = refl
      joined x (y ∷ a) b = ap (λ r. y ∷ r) (joined x a b)

module _ {X : Type 0} where
  there : (n k i : ℕ) (xs : List (ℕ × X)) → Stands k (take n xs) i → i < n
  there n k i xs at = omega (arith, at.within, length-take n xs)

  pub first_replaced : (n k i : ℕ) (x : X) (xs : List (ℕ × X)) → InOrder (take n xs) → Stands k (take n xs) i → Written (take n xs) k (Some x) (take n (set xs i (k, x)))
  first_replaced n k i x xs h at = replaced k x (take n xs) _ i h at (first_set n xs i (k, x))

  pub first_cut : (n k i : ℕ) (xs gs : List (ℕ × X)) → InOrder (take n xs) → Stands k (take n xs) i → n ≤ length xs → gs ≡ copy_within xs (i + 1) n i → Written (take n xs) k None (take (n - 1) gs)
  first_cut n k i xs gs h at le is = removed k (take n xs) _ i h at (ap (take (n - 1)) is ∙ first_removed n xs i (there n k i xs at) le)

  pub first_put : (n k i : ℕ) (x : X) (xs gs : List (ℕ × X)) → InOrder (take n xs) → Belongs k (take n xs) i → n < length xs → gs ≡ copy_within xs i n (i + 1) → Written (take n xs) k (Some x) (take (n + 1) (set gs i (k, x)))
  first_put n k i x xs gs h at lt is =
      inserted k x (take n xs) _ i h at (ap (λ r. take (n + 1) (set r i (k, x))) is ∙ first_inserted n xs i (k, x) (omega (arith, at.within, length-take n xs)) lt)

  room : (n k i m : ℕ) (xs : List (ℕ × X)) (t : Table X) → InOrder (take n xs) → Belongs k (take n xs) i → n ≤ length xs → table_of (take n xs) ≡ t → IsSome (get t k) ⊎ (length (entries t) < m) → n < m
  room n k i m xs t h at le is (inl some) = absurd (cc (some, sym (ap (λ (t : Table X). get t k) is) ∙ absent k (take n xs) i h at))
  room n k i m xs t h at le is (inr few) = omega (arith, few, ap (λ (t : Table X). length (entries t)) is, ap length (entries_of (take n xs) h), length-take n xs)

  pub has_room : (n k i m : ℕ) (xs : List (ℕ × X)) (t : Table X) (o : Option X) (x : X) → InOrder (take n xs) → Belongs k (take n xs) i → n ≤ length xs → table_of (take n xs) ≡ t → o ≡ Some x → (IsSome o → IsSome (get t k) ⊎ (length (entries t) < m)) → (n < m) × (i ≤ n)
  has_room n k i m xs t o x h at le is there asks = (room n k i m xs t h at le is (asks (subst IsSome (sym there) refl)), omega (arith, at.within, length-take n xs))
