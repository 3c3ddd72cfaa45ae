-- What becomes of a line where a key comes or goes.
use Rattle.std.proofs.Common.{◌≡◌, ◌≢◌, ⊎_elim, ℕ, ◌+◌, ◌≤◌, ◌<◌, ◌==◌, Bool, true, false, cond, List, [], ◌∷◌, ◌++◌, length, get_or, set, ap, refl, sym, ◌∙◌, subst, arith}
use Rattle.std.specs.Prelude.{Some, slice_get, Result, Ok, Err, OnOk, is_ok, if◌then◌else◌}
use Rattle.std.specs.Result.{is_err}
use Rattle.std.specs.List.{count_by, remove}
use Rattle.std.proofs.Math.Nat.{lt_of_not-le}
use Rattle.std.proofs.lemmas.Bool.{cases_eq, eqb-true, eqb-false, true≢false}
use Rattle.std.proofs.lemmas.List.{length_push, length-set, get_or-set_same, get_or-set_other, get_or_append_left, get_or_push, get_or_past}
use Rattle.std.proofs.lemmas.List.Sums.{sum_by-cons, sum_by-remove, sum_by-set, sum_by_push, count_by-le-length}
use Rattle.std.proofs.lemmas.List.Edits.{length-remove}
use Rattle.std.proofs.lemmas.Option.{get_or_from_slice_get, slice_get_within}
use Rattle.rtsp_roster.specs.Lines.{IsIn, IsLine, IsWithout, times}

abbrev pub one : Bool → ℕ
one b = cond b 1 0

-- a key is once among itself, and not among others
pub here : (q : ℕ) → one (q == q) ≡ 1
here q = by (q == q) (λ e. e)
  where
    by : (b : Bool) → (b ≡ false → (q == q) ≡ false) → one b ≡ 1
    by true is = refl
    by false is = absurd (eqb-false q q (is refl) refl)

pub elsewhere : (k q : ℕ) → (q ≡ k → ⊥) → one (k == q) ≡ 0
elsewhere k q differs = by (k == q) (λ e. e)
  where
    by : (b : Bool) → (b ≡ true → (k == q) ≡ true) → one b ≡ 0
    by true is = absurd (differs (sym (eqb-true k q (is refl))))
    by false is = refl

one_at_most : (b : Bool) → one b ≤ 1
one_at_most true = omega arith
one_at_most false = omega arith

-- the marks say where each key is, after one of them has changed
marked : (keys new : List ℕ) (marks : List Bool) (key : ℕ) (b : Bool) → key < length marks
    → ((q : ℕ) → times q keys ≡ one (get_or marks q false))
    → times key new ≡ one b → ((q : ℕ) → (q ≡ key → ⊥) → times q new ≡ times q keys)
    → (q : ℕ) → times q new ≡ one (get_or (set marks key b) q false)
marked keys new marks key b lt once is others q =
    ⊎_elim
    (λ (e : q ≡ key). subst (λ p. times p new ≡ one (get_or (set marks key b) p false)) (sym e) (is ∙ ap one (sym (get_or-set_same marks key b false lt))))
    (λ (n : q ≡ key → ⊥). others q n ∙ once q ∙ ap one (sym (get_or-set_other marks key q b false n)))
    (cases_eq q key)

unmarked : (b : Bool) (n : ℕ) → n ≡ one b → (n ≡ 1 → ⊥) → b ≡ false
unmarked true n is out = absurd (out is)
unmarked false n is out = refl

-- a key comes that wasn't there, and there was room for it
pub came : (keys : List ℕ) (marks : List Bool) (key : ℕ) → IsLine keys marks → key < length marks → (IsIn key keys → ⊥) → IsLine (keys ++ key ∷ []) (set marks key true)
came keys marks key line lt out =
    let was = unmarked (get_or marks key false) (times key keys) (line.once key) out in
    let test = λ (q k : ℕ). one (k == q) in record {
      once = marked keys (keys ++ key ∷ []) marks key true lt line.once
          (omega (arith, sum_by_push (test key) keys key, line.once key, ap one was, here key))
          (λ q n. omega (arith, sum_by_push (test q) keys key, elsewhere key q n));
      all = omega (arith, length_push keys key, line.all, sum_by-set one marks key true false lt, ap one was);
    }

pub fits : (keys : List ℕ) (marks : List Bool) (key : ℕ) → IsLine keys marks → key < length marks → (IsIn key keys → ⊥) → length keys < length marks
fits keys marks key line lt out =
    omega (
      arith,
      line.all,
      sum_by-set one marks key true false lt,
      ap one (unmarked (get_or marks key false) (times key keys) (line.once key) out),
      count_by-le-length (λ b. b) (set marks key true),
      length-set marks key true,
    )

-- a key that is there has a mark
pub has_mark : (keys : List ℕ) (marks : List Bool) (key : ℕ) → IsLine keys marks → 0 < times key keys → key < length marks
has_mark keys marks key line there =
    lt_of_not-le (λ (past : length marks ≤ key). absurd (omega (arith, there, line.once key, ap one (get_or_past marks key false past))))

-- the first key goes
pub first_there : (key : ℕ) (rest : List ℕ) → 0 < times key (key ∷ rest)
first_there key rest = omega (arith, sum_by-cons (λ k. one (k == key)) key rest, here key)

pub went : (keys : List ℕ) (marks : List Bool) (key : ℕ) (rest : List ℕ) → keys ≡ key ∷ rest → IsLine keys marks → IsLine rest (set marks key false)
went keys marks key rest e line =
    let lt = has_mark keys marks key line (subst (λ l. 0 < times key l) (sym e) (first_there key rest)) in
    let split = λ (q : ℕ). ap (λ l. times q l) e ∙ sum_by-cons (λ k. one (k == q)) key rest in
    let was = line.once key in
    let most = one_at_most (get_or marks key false) in record {
      once = marked keys rest marks key false lt line.once (omega (arith, split key, here key, was, most)) (λ q n. omega (arith, split q, elsewhere key q n));
      all = omega (arith, ap length e, line.all, sum_by-set one marks key false false lt, split key, here key, was, most);
    }

-- a key goes from an index
pub left : (keys : List ℕ) (marks : List Bool) (key at : ℕ) → slice_get keys at ≡ Some key → IsLine keys marks → IsLine (remove keys at) (set marks key false)
left keys marks key at is line =
    let inside = slice_get_within keys at key is in
    let found = get_or_from_slice_get keys at key key is in
    let split = λ (q : ℕ). sum_by-remove (λ k. one (k == q)) keys at key inside in
    let same = λ (q : ℕ). ap (λ k. one (k == q)) found in
    let was = line.once key in
    let most = one_at_most (get_or marks key false) in
    let lt = has_mark keys marks key line (omega (arith, split key, same key, here key)) in record {
      once = marked keys (remove keys at) marks key false lt line.once (omega (arith, split key, same key, here key, was, most)) (λ q n. omega (arith, split q, same q, elsewhere key q n));
      all = omega (arith, length-remove keys at inside, line.all, sum_by-set one marks key false false lt, split key, same key, here key, was, most);
    }

-- one key less at most of each, and none of this
pub without_fewer : (keys new : List ℕ) (key : ℕ) → IsWithout keys key new → (q : ℕ) → times q new ≤ times q keys
without_fewer keys new key out q =
    omega (arith, ap (λ l. times q l) out.rest, sum_by-remove (λ k. one (k == q)) keys out.at key (slice_get_within keys out.at key out.there))

pub without_gone : (keys new : List ℕ) (key : ℕ) → IsWithout keys key new → times key new + 1 ≡ times key keys
without_gone keys new key out =
    omega (
      arith,
      ap (λ l. times key l) out.rest,
      sum_by-remove (λ k. one (k == key)) keys out.at key (slice_get_within keys out.at key out.there),
      ap (λ k. one (k == key)) (get_or_from_slice_get keys out.at key key out.there),
      here key,
    )

-- a key more may come
pub wider : (keys : List ℕ) (marks : List Bool) → IsLine keys marks → IsLine keys (marks ++ false ∷ [])
wider keys marks line = record {
  once = λ q. line.once q ∙ ap one (sym (kept q));
  all = omega (arith, line.all, sum_by_push one marks false);
}
  where
    past : (q : ℕ) → length marks < q → get_or (marks ++ false ∷ []) q false ≡ false
    past q lt = get_or_past (marks ++ false ∷ []) q false (omega (arith, length_push marks false, lt))

    unequal : (q : ℕ) → (q ≡ length marks → ⊥) → get_or (marks ++ false ∷ []) q false ≡ get_or marks q false
    unequal q n = grind (arith, past q, get_or_append_left marks (false ∷ []) false q, get_or_past marks q false, n)

    kept : (q : ℕ) → get_or (marks ++ false ∷ []) q false ≡ get_or marks q false
    kept q =
        ⊎_elim
        (λ (e : q ≡ length marks). get_or_push marks false false q (sym e) ∙ sym (get_or_past marks q false (omega (arith, e))))
        (λ (n : q ≡ length marks → ⊥). unequal q n)
        (cases_eq q (length marks))

-- a mark was pushed, since there was memory
pub pushed : {A E : Type 0} (r : Result A E) (marks new : List Bool) → is_err r ≡ false → new ≡ (if is_ok r then marks ++ false ∷ [] else marks) → new ≡ marks ++ false ∷ []
pushed (Ok x) marks new e is = is
pushed (Err x) marks new e is = absurd (true≢false e)

pub when_ok : {A E P : Type 0} (r : Result A E) → is_err r ≡ false → OnOk r P → P
when_ok (Ok x) e is = is
when_ok (Err x) e is = absurd (true≢false e)
