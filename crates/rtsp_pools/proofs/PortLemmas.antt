-- Ports and pairs as bits.
use Rattle.std.proofs.Common.{◌≡◌, ◌≢◌, ◌==◌, ℕ, ◌+◌, ◌-◌, ◌*◌, ◌/◌, ◌<◌, ◌≤◌, Bool, true, false, ◌&&◌, ◌||◌, not, cond, List, refl, sym, ◌∙◌, ap, inl, inr, arith}
use Rattle.std.proofs.lemmas.Bool.{eq-eqb, ne_eqb, cases_eq, cases_lt, and_right}
use Rattle.rtsp_pools.specs.declared.pair_pool.PairPool.{PairPool}
use Rattle.rtsp_pools.specs.Bits.{has, IsPut, ArePairsOf}
use Rattle.rtsp_pools.specs.Pools.{is_free_port, is_free_pair}
use Rattle.rtsp_pools.proofs.ChanLemmas.{twice}

-- a port of the whole is a bit, and so is a pair
pub port_at : (pool : PairPool) (i : ℕ) → is_free_port pool (pool.whole.first_port + i) ≡ has pool.ports.words.items i
port_at pool i =
    let at : pool.whole.first_port + i - pool.whole.first_port ≡ i = omega arith in
    ap (has pool.ports.words.items) at

pub pair_at : (pool : PairPool) (i : ℕ) → is_free_pair pool (pool.whole.first_port + 2 * i) ≡ has pool.free.words.items i
pair_at pool i =
    let next : pool.whole.first_port + 2 * i + 1 ≡ pool.whole.first_port + (2 * i + 1) = omega arith in
    (λ t. port_at pool (2 * i) t && is_free_port pool (next t)) ∙ ap (λ t. has pool.ports.words.items (2 * i) && t) (port_at pool (2 * i + 1)) ∙ sym (pool.paired i)

pub pair_is : (pool : PairPool) (p i : ℕ) → p ≡ pool.whole.first_port + 2 * i → is_free_pair pool p ≡ has pool.free.words.items i
pair_is pool p i at = ap (is_free_pair pool) at ∙ pair_at pool i

pub port_is : (pool : PairPool) (p i : ℕ) → p ≡ pool.whole.first_port + i → is_free_port pool p ≡ has pool.ports.words.items i
port_is pool p i at = ap (is_free_port pool) at ∙ port_at pool i

-- all numbers below a limit make all pairs
pub all_paired : (numbers pairs : List ℕ) (n m : ℕ) → m ≡ 2 * n → ((k : ℕ) → k < n → has pairs k ≡ true) → ((k : ℕ) → k < m → has numbers k ≡ true)
    → ((k : ℕ) → n ≤ k → has pairs k ≡ false) → ((k : ℕ) → m ≤ k → has numbers k ≡ false) → ArePairsOf numbers pairs
all_paired numbers pairs n m twice some each none past k =
    elim (cases_lt k n) [
      | inl below ↦
          let one = each (2 * k) (omega (arith, below, twice)) in
          let two = each (2 * k + 1) (omega (arith, below, twice)) in
          some k below ∙ sym (λ t. one t && two t)
      | inr after ↦ none k after ∙ sym (ap (λ t. t && has numbers (2 * k + 1)) (past (2 * k) (omega (arith, after, twice))))
    ]

-- Where no number changes but the two of one pair, and the pair is put in or taken out as both are there, each pair is there as both its numbers are.
module _ {free more : List ℕ} (k : ℕ) {t : Bool} (pair : IsPut k t free more) where
  pairs_kept : (old new : List ℕ) → ((i : ℕ) → i / 2 ≢ k → has new i ≡ has old i) → t ≡ (has new (2 * k) && has new (2 * k + 1)) → ArePairsOf old free → ArePairsOf new more
  pairs_kept old new numbers here was j =
      elim (cases_eq j k) [
        | inl same ↦ ap (has more) same ∙ pair.here ∙ here ∙ sym (ap (λ j. has new (2 * j) && has new (2 * j + 1)) same)
        | inr apart ↦
            let one = numbers (2 * j) (λ e. apart (omega (arith, e))) in
            let two = numbers (2 * j + 1) (λ e. apart (omega (arith, e))) in
            pair.others j apart ∙ was j ∙ sym (λ u. one u && two u)
      ]

-- One number is put in or taken out.
module _ {old new : List ℕ} {i : ℕ} {t : Bool} (port : IsPut i t old new) where
  pub port_paired : {free more : List ℕ} {s : Bool} → IsPut (i / 2) s free more → s ≡ (has new (2 * (i / 2)) && has new (2 * (i / 2) + 1)) → ArePairsOf old free → ArePairsOf new more
  port_paired pair here = pairs_kept (i / 2) pair old new (λ k apart. port.others k (λ e. apart (ap (λ k. k / 2) e))) here

  -- with one of its numbers missing the pair isn't there
  pub not_both : t ≡ false → false ≡ (has new (2 * (i / 2)) && has new (2 * (i / 2) + 1))
  not_both none =
      elim (cases_eq i (2 * (i / 2))) [
        | inl first ↦ sym (ap (λ u. u && has new (2 * (i / 2) + 1)) (ap (has new) (sym first) ∙ port.here ∙ none))
        | inr apart ↦
            let second : 2 * (i / 2) + 1 ≡ i = omega (arith, apart) in
            sym (ap (λ u. has new (2 * (i / 2)) && u) (ap (has new) second ∙ port.here ∙ none) ∙ and_right (has new (2 * (i / 2))) false refl)
      ]

  -- what the ports say, counted from the first
  pub port_put : (first p q : ℕ) → p ≡ first + i → first ≤ q → has new (q - first) ≡ cond (q == p) t (has old (q - first))
  port_put first p q at from =
      elim (cases_eq q p) [
        | inl same ↦
            let place : q - first ≡ i = omega (arith, same, at) in
            ap (has new) place ∙ port.here ∙ sym (ap (λ u. cond u t (has old (q - first))) (eq-eqb q p same))
        | inr apart ↦ port.others (q - first) (λ e. apart (omega (arith, e, at, from))) ∙ sym (ap (λ u. cond u t (has old (q - first))) (ne_eqb q p apart))
      ]

-- Both numbers of a pair are put in or taken out.
module _ {old mid new : List ℕ} (k : ℕ) {t : Bool} (one : IsPut (2 * k) t old mid) (two : IsPut (2 * k + 1) t mid new) where
  pub pair_paired : {free more : List ℕ} → IsPut k t free more → ArePairsOf old free → ArePairsOf new more
  pair_paired pair =
      let first : has new (2 * k) ≡ t = two.others (2 * k) (λ e. absurd (omega (arith, e))) ∙ one.here in
      pairs_kept k pair old new (λ i apart. two.others i (λ e. apart (omega (arith, e))) ∙ one.others i (λ e. apart (omega (arith, e)))) (sym ((λ u. first u && two.here u) ∙ twice t))

  pub pair_put : (first p q : ℕ) → p ≡ first + 2 * k → first ≤ q → has new (q - first) ≡ cond (q == p || q == p + 1) t (has old (q - first))
  pair_put first p q at from =
      port_put two first (p + 1) q (omega (arith, at)) from ∙ ap (λ v. cond (q == p + 1) t v) (port_put one first p q at from) ∙ either (q == p) (q == p + 1) (has old (q - first))
    where
      either : (u v w : Bool) → cond v t (cond u t w) ≡ cond (u || v) t w
      either true true w = refl
      either true false w = refl
      either false v w = refl

-- what is covered isn't free any more
pub taken : (is_covered was : Bool) → cond is_covered false was ≡ (not is_covered && was)
taken true was = refl
taken false was = refl

-- what is covered is free
pub given : (is_covered was : Bool) → cond is_covered true was ≡ (is_covered || was)
given true was = refl
given false was = refl
