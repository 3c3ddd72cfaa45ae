-- Numbers in ascending order, with one more put among them.
use Rattle.std.proofs.Common.{◌≡◌, ℕ, ◌<◌, ◌≤◌, zero, suc, Bool, true, false, cond, T, List, [], ◌∷◌, length, take, drop, drop-cons, get_or, refl, sym, ◌∙◌, ap, subst, arith, eq-eqb, ne_eqb}
use Rattle.std.specs.Prelude.{Option, Some, None, map, filter, insert, nat_eq, if◌then◌else◌}
use Rattle.std.specs.Ordering.{nat_cmp}
use Rattle.std.specs.FinMap.{put, is_sorted}
use Rattle.std.specs.FinMap.Entries.{by_order, below_all}
use Rattle.std.specs.Prelude.{Ok, Err}
use Rattle.std.specs.List.Sorted.{IsNonDecreasing, IsBinarySearchResult}
use Rattle.std.proofs.Common.{◌⊎◌, ⊎_elim}
use Rattle.std.proofs.lemmas.Bool.{lt-ltb, le-ltb, ltb-true, cases_order}
use Rattle.std.proofs.lemmas.List.{get_or-take, take_all, length-take-le}
use Rattle.std.proofs.lemmas.List.Sorted.{searched, IsNonDecreasingBy-insert}
use Rattle.std.proofs.lemmas.List.{get_or_default}
use Rattle.rtsp_record.specs.Books.{Session}
use Rattle.rtsp_sessions.specs.Lookups.{is_above, numbers_above, inserted}
use Rattle.rtsp_sessions.proofs.SortedRows.{both_parts, is_less, is_equal, is_greater, less_is}

-- before one that is greater
inserted-less : (n m : ℕ) (ms : List ℕ) → n < m → inserted n (m ∷ ms) ≡ n ∷ m ∷ ms
inserted-less n m ms lt = ap (λ t. if t then n ∷ m ∷ ms else (if nat_eq n m then m ∷ ms else m ∷ inserted n ms)) (lt-ltb n m lt)

-- where it stands
inserted-same : (n m : ℕ) (ms : List ℕ) → n ≡ m → inserted n (m ∷ ms) ≡ m ∷ ms
inserted-same n m ms is =
    ap (λ t. if t then n ∷ m ∷ ms else (if nat_eq n m then m ∷ ms else m ∷ inserted n ms)) (le-ltb n m (omega (arith, is)))
    ∙ ap (λ t. if t then m ∷ ms else m ∷ inserted n ms) (eq-eqb n m is)

-- behind one that is less
inserted-greater : (n m : ℕ) (ms : List ℕ) → m < n → inserted n (m ∷ ms) ≡ m ∷ inserted n ms
inserted-greater n m ms lt =
    ap (λ t. if t then n ∷ m ∷ ms else (if nat_eq n m then m ∷ ms else m ∷ inserted n ms)) (le-ltb n m (omega (arith, lt)))
    ∙ ap (λ t. if t then m ∷ ms else m ∷ inserted n ms) (ne_eqb n m (λ is. absurd (omega (arith, lt, is))))

-- by whether a number is another, below it, or above it
by_cases : (n m : ℕ) (P : Type 0) → (n ≡ m → P) → (n < m → P) → (m < n → P) → P
by_cases n m P same less more = ⊎_elim same (λ (h : (n < m) ⊎ (m < n)). ⊎_elim less more h) (cases_order n m)

-- one that is there already
pub inserted_there : (n : ℕ) (xs : List ℕ) (i : ℕ) → i < length xs → ((k : ℕ) → k < i → get_or xs k 0 ≤ n) → get_or xs i 0 ≡ n → inserted n xs ≡ xs
inserted_there n [] i lt before is = absurd (omega (arith, lt))
inserted_there n (m ∷ ms) zero lt before is = inserted-same n m ms (sym is)
inserted_there n (m ∷ ms) (suc i) lt before is =
    let le : m ≤ n = before 0 (omega arith) in
    by_cases n m (inserted n (m ∷ ms) ≡ m ∷ ms)
    (λ same. inserted-same n m ms same)
    (λ less. absurd (omega (arith, le, less)))
    (λ more. inserted-greater n m ms more ∙ ap (λ (l : List ℕ). m ∷ l) (inserted_there n ms i (omega (arith, lt)) (λ k less. before (suc k) (omega (arith, less))) is))

-- one that isn't, before the first that is greater
pub inserted_at : (n : ℕ) (xs : List ℕ) (i : ℕ) → i ≤ length xs → ((k : ℕ) → k < i → get_or xs k 0 < n) → ((k : ℕ) → i ≤ k → k < length xs → n < get_or xs k 0) → inserted n xs ≡ insert xs i n
inserted_at n [] zero le before behind = refl
inserted_at n [] (suc i) le before behind = absurd (omega (arith, le))
inserted_at n (m ∷ ms) zero le before behind = inserted-less n m ms (behind 0 (omega arith) (omega arith))
inserted_at n (m ∷ ms) (suc i) le before behind =
    inserted-greater n m ms (before 0 (omega arith))
    ∙ ap (λ (l : List ℕ). m ∷ l) (inserted_at n ms i (omega (arith, le)) (λ k less. before (suc k) (omega (arith, less))) (λ k from less. behind (suc k) (omega (arith, from)) (omega (arith, less))))

-- one that is no less than all others changes none of them
pub inserted_beyond : (n : ℕ) (xs : List ℕ) → ((k : ℕ) → k < length xs → get_or xs k 0 ≤ n) → take (length xs) (inserted n xs) ≡ xs
inserted_beyond n [] below = refl
inserted_beyond n (m ∷ ms) below =
    let le : m ≤ n = below 0 (omega arith) in
    by_cases n m (take (suc (length ms)) (inserted n (m ∷ ms)) ≡ m ∷ ms)
    (λ same. ap (take (suc (length ms))) (inserted-same n m ms same) ∙ take_all (suc (length ms)) (m ∷ ms) (omega arith))
    (λ less. absurd (omega (arith, le, less)))
    (λ more. ap (take (suc (length ms))) (inserted-greater n m ms more) ∙ ap (λ (l : List ℕ). m ∷ l) (inserted_beyond n ms (λ k less. below (suc k) (omega (arith, less)))))

-- of one more, the first are those of the first
pub insert_first : (xs : List ℕ) (k i n : ℕ) → i ≤ k → insert (take k xs) i n ≡ take (suc k) (insert xs i n)
insert_first xs k zero n le = refl
insert_first xs zero (suc i) n le = absurd (omega (arith, le))
insert_first (x ∷ xs) (suc k) (suc i) n le = ap (λ (l : List ℕ). x ∷ l) (insert_first xs k i n (omega (arith, le)))
insert_first xs k i n le = refl

-- behind all that count
pub unless_last : (xs : List ℕ) (k i n : ℕ) → length xs ≤ k → k ≤ i → i ≤ length xs → xs ≡ take k (insert xs i n)
unless_last xs k zero n short le within = sym (nothing xs k (omega (arith, le)) (omega (arith, short, le)) n)
  where
    nothing : (xs : List ℕ) (k : ℕ) → k ≤ 0 → length xs ≤ 0 → (n : ℕ) → take k (n ∷ xs) ≡ xs
    nothing [] zero le short n = refl
    nothing [] (suc k) le short n = absurd (omega (arith, le))
    nothing (x ∷ xs) k le short n = absurd (omega (arith, short))
unless_last [] k (suc i) n short le within = absurd (omega (arith, within))
unless_last (x ∷ xs) zero (suc i) n short le within = absurd (omega (arith, short))
unless_last (x ∷ xs) (suc k) (suc i) n short le within = ap (λ (l : List ℕ). x ∷ l) (unless_last xs k i n (omega (arith, short)) (omega (arith, le)) (omega (arith, within)))

take_twice : (k : ℕ) (xs : List ℕ) → take k (take k xs) ≡ take k xs
take_twice (suc k) (x ∷ xs) = ap (λ (l : List ℕ). x ∷ l) (take_twice k xs)
take_twice k xs = refl

take_behind : (k m : ℕ) (xs : List ℕ) → take k (m ∷ take k xs) ≡ take k (m ∷ xs)
take_behind zero m xs = refl
take_behind (suc k) m xs = ap (λ (l : List ℕ). m ∷ l) (take_first k xs)
  where
    take_first : (k : ℕ) (xs : List ℕ) → take k (take (suc k) xs) ≡ take k xs
    take_first (suc k) (x ∷ xs) = ap (λ (l : List ℕ). x ∷ l) (take_first k xs)
    take_first k xs = refl

pub inserted_first : (k n : ℕ) (xs : List ℕ) → take k (inserted n (take k xs)) ≡ take k (inserted n xs)
inserted_first (suc k) n (m ∷ ms) =
    by_cases n m (take (suc k) (inserted n (m ∷ take k ms)) ≡ take (suc k) (inserted n (m ∷ ms)))
    (λ same. ap (take (suc k)) (inserted-same n m (take k ms) same) ∙ ap (λ (l : List ℕ). m ∷ l) (take_twice k ms) ∙ sym (ap (take (suc k)) (inserted-same n m ms same)))
    (λ less. ap (take (suc k)) (inserted-less n m (take k ms) less) ∙ ap (λ (l : List ℕ). n ∷ l) (take_behind k m ms) ∙ sym (ap (take (suc k)) (inserted-less n m ms less)))
    (λ more. ap (take (suc k)) (inserted-greater n m (take k ms) more) ∙ ap (λ (l : List ℕ). m ∷ l) (inserted_first k n ms) ∙ sym (ap (take (suc k)) (inserted-greater n m ms more)))
inserted_first k n xs = refl

-- Numbers that don't fall.

pub rising-take : (k : ℕ) (xs : List ℕ) → k ≤ length xs → IsNonDecreasing xs → IsNonDecreasing (take k xs)
rising-take k xs le up i j d from lt =
    let size = length-take-le k xs le in
    omega (arith, get_or-take k xs i d (omega (arith, from, lt, size)), get_or-take k xs j d (omega (arith, lt, size)), up i j d from (omega (arith, lt, size, le)))

pub rising-insert : (xs : List ℕ) (i n : ℕ) → IsNonDecreasing xs → i ≤ length xs → ((k : ℕ) → k < i → get_or xs k 0 < n) → ((k : ℕ) → i ≤ k → k < length xs → n < get_or xs k 0) → IsNonDecreasing (insert xs i n)
rising-insert xs i n up le before behind =
    IsNonDecreasingBy-insert (λ x. x) xs i n up le
    (λ k d lt. omega (arith, before k lt, get_or_default xs k d 0 (omega (arith, lt, le))))
    (λ k d from lt. omega (arith, behind k from lt, get_or_default xs k d 0 lt))

-- a place for a number among others
pub record Placed (xs : List ℕ) (i n : ℕ) : Type 0 where
  pub within : i ≤ length xs
  pub before : (k : ℕ) → k < i → get_or xs k 0 < n
  pub behind : (k : ℕ) → i ≤ k → k < length xs → n < get_or xs k 0

pub placed_rises : (xs : List ℕ) (i n : ℕ) → IsNonDecreasing xs → Placed xs i n → IsNonDecreasing (insert xs i n)
placed_rises xs i n up p = rising-insert xs i n up p.within p.before p.behind

pub take_short : (k : ℕ) (xs : List ℕ) → length (take k xs) ≤ k
take_short (suc k) (x ∷ xs) = omega (arith, take_short k xs)
take_short k xs = omega arith

-- no more, and not as many
pub fewer : (n m : ℕ) → n ≤ m → nat_eq n m ≡ false → n < m
fewer n m le off = by_cases n m (n < m) (λ same. absurd (cc (sym off ∙ eq-eqb n m same))) (λ less. less) (λ more. absurd (omega (arith, more, le)))

-- it is one among the first, too
pub placed_first : (k : ℕ) (xs : List ℕ) (i n : ℕ) → i ≤ k → Placed xs i n → Placed (take k xs) i n
placed_first k xs i n le p =
    by_cases k (length xs) (Placed (take k xs) i n) (λ same. cut (omega (arith, same))) (λ less. cut (omega (arith, less))) (λ more. subst (λ (ys : List ℕ). Placed ys i n) (sym (take_all k xs (omega (arith, more)))) p)
  where
    cut : k ≤ length xs → Placed (take k xs) i n
    cut long =
        let size = length-take-le k xs long in
        record {
          within = omega (arith, size, le);
          before = λ j lt. omega (arith, get_or-take k xs j 0 (omega (arith, lt, le)), p.before j lt);
          behind = λ j from lt. omega (arith, get_or-take k xs j 0 (omega (arith, lt, size)), p.behind j from (omega (arith, lt, size, long)));
        }

-- what a search finds
pub placed_by : (xs ys : List ℕ) (n i : ℕ) → ys ≡ xs → IsNonDecreasing xs → IsBinarySearchResult (λ y. nat_cmp y n) ys (Err i) → Placed xs i n
placed_by xs ys n i is up found =
    let parts = searched xs n (Err i) (subst (λ (l : List ℕ). IsBinarySearchResult (λ y. nat_cmp y n) l (Err i)) is found) (λ j k le lt. up j k 0 le lt) in
    record { within = parts.0; before = parts.1; behind = parts.2 }

pub there_by : (xs ys : List ℕ) (n i : ℕ) → ys ≡ xs → IsNonDecreasing xs → IsBinarySearchResult (λ y. nat_cmp y n) ys (Ok i) → inserted n xs ≡ xs
there_by xs ys n i is up found =
    let parts = searched xs n (Ok i) (subst (λ (l : List ℕ). IsBinarySearchResult (λ y. nat_cmp y n) l (Ok i)) is found) (λ j k le lt. up j k 0 le lt) in
    inserted_there n xs i parts.0 (λ k lt. omega (arith, parts.1, up k i 0 (omega (arith, lt)) parts.0)) parts.1

-- The numbers of sessions above another.

above_more : (a : Option ℕ) (k q : ℕ) → is_above a k ≡ true → k < q → is_above a q ≡ true
above_more None k q h lt = refl
above_more (Some m) k q h lt = lt-ltb m q (omega (arith, ltb-true m k h, lt))

-- the rows behind one are above it
pub above_first : (a : Option ℕ) (k : ℕ) (es : List (ℕ × Session)) → T (below_all nat_cmp k es) → inserted k (numbers_above a es) ≡ k ∷ numbers_above a es
above_first a k [] below = refl
above_first a k (e ∷ es) below =
    let parts = both_parts _ _ below in
    elim (is_above a e.0) as (λ t. inserted k (map (λ e. e.0) (cond t (e ∷ filter (λ e. is_above a e.0) es) (filter (λ e. is_above a e.0) es))) ≡ k ∷ map (λ e. e.0) (cond t (e ∷ filter (λ e. is_above a e.0) es) (filter (λ e. is_above a e.0) es))) [
      | true ↦ inserted-less k e.0 (numbers_above a es) (less_is k e.0 parts.0)
      | false ↦ above_first a k es parts.1
    ]

-- one row more
pub above-cons : (a : Option ℕ) (e : ℕ × Session) (es : List (ℕ × Session)) → is_above a e.0 ≡ true → numbers_above a (e ∷ es) ≡ e.0 ∷ numbers_above a es
above-cons a e es h = ap (λ (t : Bool). map (λ e. e.0) (cond t (e ∷ filter (λ e. is_above a e.0) es) (filter (λ e. is_above a e.0) es))) h

pub above-skip : (a : Option ℕ) (e : ℕ × Session) (es : List (ℕ × Session)) → is_above a e.0 ≡ false → numbers_above a (e ∷ es) ≡ numbers_above a es
above-skip a e es h = ap (λ (t : Bool). map (λ e. e.0) (cond t (e ∷ filter (λ e. is_above a e.0) es) (filter (λ e. is_above a e.0) es))) h

put_less : (k : ℕ) (f : Session) (e : ℕ × Session) (es : List (ℕ × Session)) → k < e.0 → put nat_cmp k f (e ∷ es) ≡ (k, f) ∷ e ∷ es
put_less k f e es h = ap (λ r. by_order r ((k, f) ∷ e ∷ es) ((e.0, f) ∷ es) (e ∷ put nat_cmp k f es)) (is_less k e.0 h)

put_same : (k : ℕ) (f : Session) (e : ℕ × Session) (es : List (ℕ × Session)) → k ≡ e.0 → put nat_cmp k f (e ∷ es) ≡ (e.0, f) ∷ es
put_same k f e es h = ap (λ r. by_order r ((k, f) ∷ e ∷ es) ((e.0, f) ∷ es) (e ∷ put nat_cmp k f es)) (is_equal k e.0 h)

put_more : (k : ℕ) (f : Session) (e : ℕ × Session) (es : List (ℕ × Session)) → e.0 < k → put nat_cmp k f (e ∷ es) ≡ e ∷ put nat_cmp k f es
put_more k f e es h = ap (λ r. by_order r ((k, f) ∷ e ∷ es) ((e.0, f) ∷ es) (e ∷ put nat_cmp k f es)) (is_greater k e.0 h)

-- a session that is put in its place among the others
pub above_put : (a : Option ℕ) (k : ℕ) (f : Session) (es : List (ℕ × Session)) → is_above a k ≡ true → numbers_above a (put nat_cmp k f es) ≡ inserted k (numbers_above a es)
above_put a k f [] h = above-cons a (k, f) [] h
above_put a k f (e ∷ es) h =
    by_cases k e.0 (numbers_above a (put nat_cmp k f (e ∷ es)) ≡ inserted k (numbers_above a (e ∷ es)))
    (λ same.
    let here : is_above a e.0 ≡ true = ap (is_above a) (sym same) ∙ h in
    ap (numbers_above a) (put_same k f e es same) ∙ above-cons a (e.0, f) es here ∙ sym (ap (inserted k) (above-cons a e es here) ∙ inserted-same k e.0 (numbers_above a es) same))
    (λ less.
    let here : is_above a e.0 ≡ true = above_more a k e.0 h less in
    ap (numbers_above a) (put_less k f e es less) ∙ above-cons a (k, f) (e ∷ es) h ∙ ap (λ (l : List ℕ). k ∷ l) (above-cons a e es here) ∙ sym (ap (inserted k) (above-cons a e es here) ∙ inserted-less k e.0 (numbers_above a es) less))
    (λ more.
    ap (numbers_above a) (put_more k f e es more)
    ∙ elim (is_above a e.0) as (λ t. map (λ e. e.0) (cond t (e ∷ filter (λ e. is_above a e.0) (put nat_cmp k f es)) (filter (λ e. is_above a e.0) (put nat_cmp k f es))) ≡ inserted k (map (λ e. e.0) (cond t (e ∷ filter (λ e. is_above a e.0) es) (filter (λ e. is_above a e.0) es)))) [
      | true ↦ ap (λ (l : List ℕ). e.0 ∷ l) (above_put a k f es h) ∙ sym (inserted-greater k e.0 (numbers_above a es) more)
      | false ↦ above_put a k f es h
    ])

-- one that isn't above
pub below_put : (a : Option ℕ) (k : ℕ) (f : Session) (es : List (ℕ × Session)) → is_above a k ≡ false → numbers_above a (put nat_cmp k f es) ≡ numbers_above a es
below_put a k f [] h = above-skip a (k, f) [] h
below_put a k f (e ∷ es) h =
    by_cases k e.0 (numbers_above a (put nat_cmp k f (e ∷ es)) ≡ numbers_above a (e ∷ es))
    (λ same.
    let here : is_above a e.0 ≡ false = ap (is_above a) (sym same) ∙ h in
    ap (numbers_above a) (put_same k f e es same) ∙ above-skip a (e.0, f) es here ∙ sym (above-skip a e es here))
    (λ less. ap (numbers_above a) (put_less k f e es less) ∙ above-skip a (k, f) (e ∷ es) h)
    (λ more.
    ap (numbers_above a) (put_more k f e es more)
    ∙ elim (is_above a e.0) as (λ t. map (λ e. e.0) (cond t (e ∷ filter (λ e. is_above a e.0) (put nat_cmp k f es)) (filter (λ e. is_above a e.0) (put nat_cmp k f es))) ≡ map (λ e. e.0) (cond t (e ∷ filter (λ e. is_above a e.0) es) (filter (λ e. is_above a e.0) es))) [
      | true ↦ ap (λ (l : List ℕ). e.0 ∷ l) (below_put a k f es h)
      | false ↦ below_put a k f es h
    ])

-- the first of the rows from a place on, with the row before it
pub first_more : (a : Option ℕ) (k n : ℕ) (found new : List ℕ) (es : List (ℕ × Session)) (i : ℕ) (e : ℕ × Session) → T (is_sorted nat_cmp (drop i es)) → i < length es → get_or es i e ≡ e → n ≡ e.0 → is_above a n ≡ true
    → found ≡ take k (numbers_above a (drop (suc i) es)) → new ≡ take k (inserted n found) → new ≡ take k (numbers_above a (drop i es))
first_more a k n found new es i e sorted lt is number on before put =
    let split : drop i es ≡ e ∷ drop (suc i) es = drop-cons es i e lt ∙ ap (λ (x : ℕ × Session). x ∷ drop (suc i) es) is in
    let below = (both_parts _ _ (subst (λ (l : List (ℕ × Session)). T (is_sorted nat_cmp l)) split sorted)).0 in
    put
    ∙ ap (λ (l : List ℕ). take k (inserted n l)) before
    ∙ inserted_first k n (numbers_above a (drop (suc i) es))
    ∙ ap (λ m. take k (inserted m (numbers_above a (drop (suc i) es)))) number
    ∙ ap (take k) (above_first a e.0 (drop (suc i) es) below ∙ sym (above-cons a e (drop (suc i) es) (ap (is_above a) (sym number) ∙ on)))
    ∙ sym (ap (λ (l : List (ℕ × Session)). take k (numbers_above a l)) split)

pub sorted_drop : (es : List (ℕ × Session)) (i : ℕ) → T (is_sorted nat_cmp es) → T (is_sorted nat_cmp (drop i es))
sorted_drop es zero h = h
sorted_drop [] (suc i) h = h
sorted_drop (e ∷ es) (suc i) h = sorted_drop es i (both_parts _ _ h).1
