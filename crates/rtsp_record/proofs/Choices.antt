-- What is chosen is in the whole and free.
use Rattle.std.proofs.Common.{◌≡◌, ◌==◌, ℕ, ◌+◌, ◌-◌, ◌*◌, ◌<◌, zero, suc, Bool, true, false, ◌||◌, cond, refl, ◌∙◌, ap, subst, arith}
use Rattle.std.specs.Prelude.{Option, Some, None, nat_le}
use Rattle.std.proofs.Math.Nat.{mul-zero, mul-suc, one-mul}
use Rattle.std.proofs.lemmas.Bool.{and_parts}
use Rattle.std.proofs.lemmas.Bool.Decides.{Decides-eqb}
use Rattle.rtsp_record.specs.declared.holdings.Thing.TheVariants.{Pair, Port, Chan}
use Rattle.rtsp_record.specs.declared.holdings.Whole.{Whole}
use Rattle.rtsp_record.specs.Books.{Book}
use Rattle.rtsp_record.specs.Sums.{Spot, UdpPort, Channel, amount, covers, covering}
use Rattle.rtsp_record.specs.Rules.{InWhole, IsFree}
use Rattle.rtsp_record.specs.Choices.{least_of, from_on, least_pair_by, least_port_by, least_chan_by, IsWish, is_free, is_port_free, is_pair_free, least_pair, least_port, is_chan_free, least_chan, chosen_chan}

-- one of two tests
by_either : (a b : Bool) (P : Type 0) → (a ≡ true → P) → (b ≡ true → P) → (a || b) ≡ true → P
by_either true b P one two h = one refl
by_either false b P one two h = two h

pub pair_is_free : (w : Whole) (b : Book) (p : ℕ) → InWhole w (Pair p) → is_pair_free b p ≡ true → IsFree w b (Pair p)
pair_is_free w b p h is =
    record { in_whole = h; free = free; rate = tt }
  where
    spots : (q : Spot) → amount (covering (UdpPort p)) b ≡ 0 → amount (covering (UdpPort (p + 1))) b ≡ 0 → covers q (Pair p) ≡ true → amount (covering q) b ≡ 0
    spots (UdpPort q) one two is =
        by_either (q == p) (q == p + 1) (amount (covering (UdpPort q)) b ≡ 0) (λ e. ap (λ q. amount (covering (UdpPort q)) b) ((Decides-eqb q p).0 e) ∙ one) (λ e. ap (λ q. amount (covering (UdpPort q)) b) ((Decides-eqb q (p + 1)).0 e) ∙ two) is
    spots (Channel d l) one two is = absurd cc

    free : (q : Spot) → covers q (Pair p) ≡ true → amount (covering q) b ≡ 0
    free q c = let parts = and_parts (is_port_free b p) (is_port_free b (p + 1)) is in spots q ((Decides-eqb _ 0).0 parts.0) ((Decides-eqb _ 0).0 parts.1) c

pub port_is_free : (w : Whole) (b : Book) (p : ℕ) → InWhole w (Port p) → is_port_free b p ≡ true → IsFree w b (Port p)
port_is_free w b p h is =
    record { in_whole = h; free = free; rate = tt }
  where
    free : (q : Spot) → covers q (Port p) ≡ true → amount (covering q) b ≡ 0
    free (UdpPort q) c = ap (λ q. amount (covering (UdpPort q)) b) ((Decides-eqb q p).0 c) ∙ (Decides-eqb _ 0).0 is
    free (Channel d l) c = absurd cc

pub chan_is_free : (w : Whole) (b : Book) (c k : ℕ) → InWhole w (Chan c k) → is_chan_free b c k ≡ true → IsFree w b (Chan c k)
chan_is_free w b c k h is =
    record { in_whole = h; free = free; rate = tt }
  where
    spots : (q : Spot) → amount (covering (Channel c k)) b ≡ 0 → amount (covering (Channel c (k + 1))) b ≡ 0 → covers q (Chan c k) ≡ true → amount (covering q) b ≡ 0
    spots (UdpPort q) one two is = absurd cc
    spots (Channel d l) one two is =
        let parts = and_parts (d == c) (l == k || l == k + 1) is in
        let conn : d ≡ c = (Decides-eqb d c).0 parts.0 in
        by_either (l == k) (l == k + 1) (amount (covering (Channel d l)) b ≡ 0)
        (λ e. (λ i. amount (covering (Channel (conn i) ((Decides-eqb l k).0 e i))) b) ∙ one)
        (λ e. (λ i. amount (covering (Channel (conn i) ((Decides-eqb l (k + 1)).0 e i))) b) ∙ two)
        parts.1

    free : (q : Spot) → covers q (Chan c k) ≡ true → amount (covering q) b ≡ 0
    free q h = let parts = and_parts (is_free b (Channel c k)) (is_free b (Channel c (k + 1))) is in spots q ((Decides-eqb _ 0).0 parts.0) ((Decides-eqb _ 0).0 parts.1) h

-- The search, one number further on. The place of a number among those that are tried is counted in steps.

pub one_on : (step p i : ℕ) → p + step * i + step ≡ p + step * (i + 1)
one_on step p i =
    let place : i + 1 ≡ suc i = omega arith in
    omega (arith, ap (λ k. step * k) place, mul-suc step i)

pub from_next : (step p i : ℕ) → p + step + step * i ≡ p + step * (i + 1)
from_next step p i = omega (arith, one_on step p i)

pub at_first : (step p : ℕ) → p + step * 0 ≡ p
at_first step p = omega (arith, mul-zero step)

least_next : (step : ℕ) (takes : ℕ → Bool) (p n : ℕ) → least_of step takes p (suc n) ≡ cond (takes p) (Some p) (least_of step takes (p + step) n)
unfolding least_of
least_next step takes p n = refl

least_none : (step : ℕ) (takes : ℕ → Bool) (p : ℕ) → least_of step takes p zero ≡ None
unfolding least_of
least_none step takes p = refl

pub least_step : (step : ℕ) (takes : ℕ → Bool) (p i n : ℕ) → i < n →
    least_of step takes (p + step * i) (n - i) ≡ cond (takes (p + step * i)) (Some (p + step * i)) (least_of step takes (p + step * (i + 1)) (n - (i + 1)))
least_step step takes p i n lt =
    let more : n - i ≡ suc (n - (i + 1)) = omega arith in
    ap (least_of step takes (p + step * i)) more
    ∙ least_next step takes (p + step * i) (n - (i + 1))
    ∙ (λ t. cond (takes (p + step * i)) (Some (p + step * i)) (least_of step takes (one_on step p i t) (n - (i + 1))))

pub chan_step : (takes : ℕ → Bool) (i n : ℕ) → i < n → least_of 2 takes (2 * i) (n - i) ≡ cond (takes (2 * i)) (Some (2 * i)) (least_of 2 takes (2 * (i + 1)) (n - (i + 1)))
chan_step takes i n lt =
    let here : 0 + 2 * i ≡ 2 * i = omega arith in
    let next : 0 + 2 * (i + 1) ≡ 2 * (i + 1) = omega arith in
    subst (λ x. least_of 2 takes x (n - i) ≡ cond (takes x) (Some x) (least_of 2 takes (2 * (i + 1)) (n - (i + 1)))) here
    (least_step 2 takes 0 i n lt ∙ ap (λ y. cond (takes (0 + 2 * i)) (Some (0 + 2 * i)) (least_of 2 takes y (n - (i + 1)))) next)

pub least_end : (step : ℕ) (takes : ℕ → Bool) (p n : ℕ) → n ≡ 0 → least_of step takes p n ≡ None
least_end step takes p n none = ap (least_of step takes p) none ∙ least_none step takes p

pub least_start : (step : ℕ) (takes : ℕ → Bool) (p n : ℕ) → least_of step takes (p + step * 0) (n - 0) ≡ least_of step takes p n
least_start step takes p n =
    let all : n - 0 ≡ n = omega arith in
    λ t. least_of step takes (at_first step p t) (all t)

pub chan_start : (takes : ℕ → Bool) → least_of 2 takes 0 128 ≡ least_chan_by takes
unfolding least_chan_by
chan_start takes = refl

-- The number that is found: the test takes it, and it is one of those that are tried.

pub record Found (step : ℕ) (takes : ℕ → Bool) (p n l : ℕ) : Type 0 where
  pub place : ℕ
  pub within : place < n
  pub at : l ≡ p + step * place
  pub taken : takes l ≡ true

pub least_found : (step : ℕ) (takes : ℕ → Bool) (p n l : ℕ) → least_of step takes p n ≡ Some l → Found step takes p n l
unfolding least_of
least_found step takes p zero l is = absurd cc
least_found step takes p (suc n) l is =
    elim (takes p) as (λ t. takes p ≡ t → cond t (Some p) (least_of step takes (p + step) n) ≡ Some l → Found step takes p (suc n) l) [
      | true ↦ λ on e. let same : p ≡ l = cc in record { place = 0; within = omega arith; at = omega (arith, same, at_first step p); taken = subst (λ l. takes l ≡ true) same on }
      | false ↦ λ _ e.
          let more = least_found step takes (p + step) n l e in
          record { place = more.place + 1; within = omega (arith, more.within); at = more.at ∙ from_next step p more.place; taken = more.taken }
    ] refl is

pub pair_found : (takes : ℕ → Bool) (w : Whole) (from l : ℕ) → least_pair_by takes w from ≡ Some l → Found 2 (from_on from takes) w.first_port w.pairs l
unfolding least_pair_by
pair_found takes w from l is = least_found 2 (from_on from takes) w.first_port w.pairs l is

pub port_found : (takes : ℕ → Bool) (w : Whole) (from l : ℕ) → least_port_by takes w from ≡ Some l → Found 1 (from_on from takes) w.first_port (2 * w.pairs) l
unfolding least_port_by
port_found takes w from l is = least_found 1 (from_on from takes) w.first_port (2 * w.pairs) l is

pub chan_found : (takes : ℕ → Bool) (l : ℕ) → least_chan_by takes ≡ Some l → Found 2 takes 0 128 l
unfolding least_chan_by
chan_found takes l is = least_found 2 takes 0 128 l is

pub chosen_pair : (w : Whole) (b : Book) (from l : ℕ) → least_pair w b from ≡ Some l → IsFree w b (Pair l)
chosen_pair w b from l is =
    let found = pair_found (is_pair_free b) w from l is in
    pair_is_free w b l (found.place, found.within, found.at) (and_parts (nat_le from l) (is_pair_free b l) found.taken).1

pub chosen_port : (w : Whole) (b : Book) (from l : ℕ) → least_port w b from ≡ Some l → IsFree w b (Port l)
chosen_port w b from l is =
    let found = port_found (is_port_free b) w from l is in
    port_is_free w b l (found.place, found.within, omega (arith, found.at, one-mul found.place)) (and_parts (nat_le from l) (is_port_free b l) found.taken).1

least_chan_free : (w : Whole) (b : Book) (c l : ℕ) → least_chan b c ≡ Some l → IsFree w b (Chan c l)
least_chan_free w b c l is =
    let found = chan_found (is_chan_free b c) l is in
    chan_is_free w b c l (found.place, omega (arith, found.at), omega (arith, found.at, found.within)) found.taken

pub chosen_chan_free : (w : Whole) (b : Book) (c : ℕ) (wish : Option ℕ) (l : ℕ) → IsWish wish → chosen_chan b c wish ≡ Some l → IsFree w b (Chan c l)
chosen_chan_free w b c None l ask is = least_chan_free w b c l is
chosen_chan_free w b c (Some k) l ask is =
    elim (is_chan_free b c k) as (λ t. is_chan_free b c k ≡ t → cond t (Some k) (least_chan b c) ≡ Some l → IsFree w b (Chan c l)) [
      | true ↦ λ free e. let same : k ≡ l = cc in subst (λ l. IsFree w b (Chan c l)) same (chan_is_free w b c k ask free)
      | false ↦ λ _ e. least_chan_free w b c l e
    ] refl is
