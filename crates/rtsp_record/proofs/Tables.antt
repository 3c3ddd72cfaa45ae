-- What one change does to a table: to its rows and to every sum over them.
use Rattle.std.proofs.Common.{◌≡◌, ◌≢◌, ℕ, ◌+◌, ◌≤◌, Bool, true, false, cond, List, [], ◌∷◌, refl, sym, ◌∙◌, ap, arith}
use Rattle.std.proofs.lemmas.List.{nil_from_length}
use Rattle.std.specs.Prelude.{Option, Some, None, sum_by, option_and_then}
use Rattle.std.specs.Ordering.{nat_cmp, eq_by_cmp, is_eq}
use Rattle.std.specs.Cmp.{nat_cmp_total, tied_itself}
use Rattle.std.specs.declared.cmp.Ordering.{Ordering}
use Rattle.std.specs.declared.cmp.Ordering.TheVariants.{Less, Equal, Greater}
use Rattle.std.specs.FinMap.{get, entries, put, find, empty, entries-insert, get-entries, get-insert, get-remove, get-empty, len-entries, len-empty, same_map, nat_cmp-IsAntisymmetric}
use Rattle.std.specs.FinMap.Entries.{by_order}
use Rattle.std.proofs.lemmas.List.Sums.{sum_by-cons}
use Rattle.rtsp_record.specs.Tables.{Table, set, total, each, mapped}

-- whether two numbers tie
abbrev pub tied : ℕ → ℕ → Bool
tied q k = eq_by_cmp nat_cmp q k

pub own : (k : ℕ) → tied k k ≡ true
own k = ap is_eq (tied_itself nat_cmp_total k)

equal : (r : Ordering) → is_eq r ≡ true → r ≡ Equal
equal Less p = cc
equal Equal p = refl
equal Greater p = cc

-- by cases on whether a number is the one
pub at_key : (k q : ℕ) (P : Bool → Type 0) → (tied q k ≡ true → q ≡ k → P true) → (tied q k ≡ false → P false) → P (tied q k)
at_key k q P there off =
    elim (tied q k) as (λ t. tied q k ≡ t → P t) [
      | true ↦ λ e. there e (nat_cmp-IsAntisymmetric q k (equal _ e))
      | false ↦ off
    ] refl

module _ {X : Type 0} where
  abbrev pub weigh : (ℕ × X → ℕ) → ℕ → Option X → ℕ
  weigh w k None = 0
  weigh w k (Some x) = w (k, x)

  pub same_table : (b c : Table X) → ((q : ℕ) → get b q ≡ get c q) → b ≡ c
  same_table b c is = same_map nat_cmp_total nat_cmp-IsAntisymmetric b c is

  pub get-set : (b : Table X) (k q : ℕ) (o : Option X) → get (set b k o) q ≡ cond (tied q k) o (get b q)
  get-set b k q None = get-remove nat_cmp_total b k q
  get-set b k q (Some x) = get-insert nat_cmp_total b k x q

  pub get-set_own : (b : Table X) (k : ℕ) (o : Option X) → get (set b k o) k ≡ o
  get-set_own b k o = get-set b k k o ∙ ap (λ t. cond t o (get b k)) (own k)

  pub get-set_else : (b : Table X) (k q : ℕ) (o : Option X) → q ≢ k → get (set b k o) q ≡ get b q
  get-set_else b k q o apart = get-set b k q o ∙ at_key k q (λ t. cond t o (get b q) ≡ get b q) (λ _ e. absurd (apart e)) (λ _. refl)

  pub set-twice : (b : Table X) (k : ℕ) (o p : Option X) → set (set b k o) k p ≡ set b k p
  set-twice b k o p = same_table _ _ (λ q.
      get-set (set b k o) k q p
      ∙ at_key k q (λ t. cond t p (get (set b k o) q) ≡ cond t p (get b q)) (λ _ _. refl) (λ n. get-set b k q o ∙ ap (λ t. cond t o (get b q)) n)
      ∙ sym (get-set b k q p))

  pub set-same : (b : Table X) (k : ℕ) → set b k (get b k) ≡ b
  set-same b k = same_table _ _ (λ q.
      get-set b k q (get b k) ∙ at_key k q (λ t. cond t (get b k) (get b q) ≡ get b q) (λ _ e. ap (get b) (sym e)) (λ n. refl))

  pub set-apart : (b : Table X) (k l : ℕ) (o p : Option X) → k ≢ l → set (set b k o) l p ≡ set (set b l p) k o
  set-apart b k l o p apart = same_table _ _ (λ q.
      get-set (set b k o) l q p
      ∙ at_key l q (λ t. cond t p (get (set b k o) q) ≡ cond (tied q k) o (get (set b l p) q))
      (λ is_l e. at_key k q (λ t. p ≡ cond t o (get (set b l p) q)) (λ _ e2. absurd (apart (sym e2 ∙ e))) (λ _. sym (get-set b l q p ∙ ap (λ t. cond t p (get b q)) is_l)))
      (λ not_l. get-set b k q o ∙ ap (cond (tied q k) o) (sym (get-set b l q p ∙ ap (λ t. cond t p (get b q)) not_l)))
      ∙ sym (get-set (set b l p) k q o))

  put_sum : (w : ℕ × X → ℕ) (k : ℕ) (x : X) (es : List (ℕ × X)) → find nat_cmp k es ≡ None → sum_by w (put nat_cmp k x es) ≡ sum_by w es + w (k, x)
  put_sum w k x [] none = refl
  put_sum w k x (e ∷ es) none =
      elim (nat_cmp k e.0) as (λ r. cond (is_eq r) (Some e.1) (find nat_cmp k es) ≡ None → sum_by w (by_order r ((k, x) ∷ e ∷ es) ((e.0, x) ∷ es) (e ∷ put nat_cmp k x es)) ≡ sum_by w (e ∷ es) + w (k, x)) [
        | Less ↦ λ _. omega (arith, sum_by-cons w (k, x) (e ∷ es))
        | Equal ↦ λ h. cc
        | Greater ↦ λ h. omega (arith, sum_by-cons w e (put nat_cmp k x es), sum_by-cons w e es, put_sum w k x es h)
      ] none

  total-new : (w : ℕ × X → ℕ) (b : Table X) (k : ℕ) (x : X) → get b k ≡ None → total w (set b k (Some x)) ≡ total w b + w (k, x)
  total-new w b k x none = ap (sum_by w) (entries-insert nat_cmp_total b k x) ∙ put_sum w k x (entries b) (sym (get-entries b k) ∙ none)

  -- one equation for every sum
  pub total-set : (w : ℕ × X → ℕ) (b : Table X) (k : ℕ) (o p : Option X) → get b k ≡ p → total w (set b k o) + weigh w k p ≡ total w b + weigh w k o
  total-set w b k None None is = omega (arith, ap (total w) (ap (set b k) (sym is) ∙ set-same b k))
  total-set w b k (Some x) None is = omega (arith, total-new w b k x is)
  total-set w b k None (Some y) is =
      omega (arith, ap (total w) (set-twice b k None (Some y) ∙ ap (set b k) (sym is) ∙ set-same b k), total-new w (set b k None) k y (get-set_own b k None))
  total-set w b k (Some x) (Some y) is =
      omega (arith, ap (total w) (set-twice b k None (Some y) ∙ ap (set b k) (sym is) ∙ set-same b k), total-new w (set b k None) k y (get-set_own b k None), ap (total w) (set-twice b k None (Some x)), total-new w (set b k None) k x (get-set_own b k None))

  pub no_entries : entries (empty {K = ℕ} {X = X} {R = nat_cmp}) ≡ []
  no_entries = nil_from_length (entries empty) (sym (len-entries empty) ∙ len-empty nat_cmp X)

  pub total-empty : (w : ℕ × X → ℕ) → total w empty ≡ 0
  total-empty w = ap (sum_by w) no_entries

  pub get-none : (k : ℕ) → get (empty {K = ℕ} {X = X} {R = nat_cmp}) k ≡ None
  get-none k = get-empty nat_cmp k

  -- no row is more than all
  pub total-at : (w : ℕ × X → ℕ) (b : Table X) (k : ℕ) → weigh w k (get b k) ≤ total w b
  total-at w b k = omega (arith, total-set w b k None (get b k) refl)

  get-each : (g : ℕ → X → Option X) (es : List (ℕ × X)) (q : ℕ) → get (each g es) q ≡ option_and_then (g q) (find nat_cmp q es)
  get-each g [] q = get-none q
  get-each g (e ∷ es) q = get-set (each g es) e.0 q (g e.0 e.1)
      ∙ at_key e.0 q (λ t. cond t (g e.0 e.1) (get (each g es) q) ≡ option_and_then (g q) (cond t (Some e.1) (find nat_cmp q es))) (λ _ is. ap (λ k. g k e.1) (sym is)) (λ _. get-each g es q)

  pub get-mapped : (g : ℕ → X → Option X) (b : Table X) (q : ℕ) → get (mapped g b) q ≡ option_and_then (g q) (get b q)
  get-mapped g b q = get-each g (entries b) q ∙ ap (option_and_then (g q)) (sym (get-entries b q))

  total-each : (w : ℕ × X → ℕ) (g : ℕ → X → Option X) (es : List (ℕ × X)) → ((k : ℕ) (x : X) → weigh w k (g k x) ≤ w (k, x)) → total w (each g es) ≤ sum_by w es
  total-each w g [] le = omega (arith, total-empty w)
  total-each w g (e ∷ es) le = omega (arith, total-set w (each g es) e.0 (g e.0 e.1) (get (each g es) e.0) refl, total-each w g es le, le e.0 e.1, sum_by-cons w e es)

  -- no sum grows where no row does
  pub total-mapped : (w : ℕ × X → ℕ) (g : ℕ → X → Option X) (b : Table X) → ((k : ℕ) (x : X) → weigh w k (g k x) ≤ w (k, x)) → total w (mapped g b) ≤ total w b
  total-mapped w g b le = total-each w g (entries b) le
