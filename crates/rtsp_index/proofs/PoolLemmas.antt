-- Pools follow the records of a book.
use Rattle.std.proofs.Common.{◌≡◌, ◌==◌, ℕ, zero, suc, ◌+◌, ◌*◌, ◌<◌, ◌≤◌, Bool, true, false, ◌&&◌, ◌||◌, not, cond, refl, sym, ◌∙◌, ap, subst, arith}
use Rattle.std.specs.Prelude.{Option, Some, None}
use Rattle.std.specs.FinMap.{get, empty}
use Rattle.std.proofs.Math.Nat.{one-mul}
use Rattle.std.proofs.lemmas.Bool.{eq-eqb, ne_eqb, and_from, or_left, or_right}
use Rattle.rtsp_record.specs.declared.holdings.Thing.{Thing}
use Rattle.rtsp_record.specs.declared.holdings.Thing.TheVariants.{Pair, Port, Chan, Rate}
use Rattle.rtsp_record.specs.declared.holdings.Whole.{Whole}
use Rattle.rtsp_record.specs.declared.payloads.Holding.{Holding}
use Rattle.rtsp_record.specs.declared.changes.Record.{Record}
use Rattle.rtsp_record.specs.declared.changes.Record.TheVariants.{Hold, Free}
use Rattle.rtsp_record.specs.Records.{session_of}
use Rattle.rtsp_record.specs.Books.{Session, Book, after}
use Rattle.rtsp_record.specs.Sums.{Measure, one_if, covers, Spot, UdpPort, Channel, amount, covering, rates, held_rate}
use Rattle.rtsp_record.specs.Rules.{InWhole, IsFree, Own, Living, MayFree}
use Rattle.rtsp_record.specs.Sound.{SoundRow}
use Rattle.rtsp_record.specs.Choices.{least_of, count_of, from_on, least_pair_by, least_port_by, least_pair, least_port, is_free, is_port_free, is_pair_free, is_chan_free}
use Rattle.rtsp_record.proofs.Choices.{at_first, from_next}
use Rattle.rtsp_record.proofs.Sound.{amount-empty}
use Rattle.rtsp_record.proofs.Balance.{balance}
use Rattle.rtsp_sessions.proofs.FreeLemmas.{free_pair, free_port, free_chan}
use Rattle.rtsp_pools.specs.Pools.{is_free_port, is_free_pair, is_free_chan, free_ports as pool_ports, free_pairs as pool_pairs}
use Rattle.rtsp_index.specs.declared.pools.Pools.{Pools}
use Rattle.rtsp_index.specs.Following.{Follows}
use Rattle.rtsp_index.specs.Free.{free_pairs, free_ports}
use Rattle.rtsp_index.specs.Pooling.{ArePoolsOf, IsFreeIn, IsHeldIn, IsTaken, IsGiven}

-- In the empty book all is free.

pub nothing_held : (q : Spot) → is_free empty q ≡ true
nothing_held q = ap (λ n. n == 0) (amount-empty (covering q))

-- The least of two tests that agree.

least_same : (step : ℕ) (t u : ℕ → Bool) (p n : ℕ) → ((i : ℕ) → i < n → t (p + step * i) ≡ u (p + step * i)) → least_of step t p n ≡ least_of step u p n
unfolding least_of
least_same step t u p zero h = refl
least_same step t u p (suc n) h =
    let here : t p ≡ u p = ap t (sym (at_first step p)) ∙ h 0 (omega arith) ∙ ap u (at_first step p) in
    let rest : least_of step t (p + step) n ≡ least_of step u (p + step) n =
    least_same step t u (p + step) n (λ i lt. ap t (from_next step p i) ∙ h (i + 1) (omega (arith, lt)) ∙ sym (ap u (from_next step p i))) in
    λ k. cond (here k) (Some p) (rest k)

pub least_pair_same : (t : ℕ → Bool) (w : Whole) (b : Book) (from : ℕ) → ((q : ℕ) → InWhole w (Pair q) → t q ≡ is_pair_free b q) → least_pair_by t w from ≡ least_pair w b from
unfolding least_pair_by
least_pair_same t w b from h =
    least_same 2 (from_on from t) (from_on from (is_pair_free b)) w.first_port w.pairs (λ i lt. ap (λ v. from_on from (λ _. v) (w.first_port + 2 * i)) (h (w.first_port + 2 * i) (i, lt, refl)))

pub least_port_same : (t : ℕ → Bool) (w : Whole) (b : Book) (from : ℕ) → ((q : ℕ) → InWhole w (Port q) → t q ≡ is_port_free b q) → least_port_by t w from ≡ least_port w b from
unfolding least_port_by
least_port_same t w b from h =
    least_same 1 (from_on from t) (from_on from (is_port_free b)) w.first_port (2 * w.pairs)
    (λ i lt. ap (λ v. from_on from (λ _. v) (w.first_port + 1 * i)) (h (w.first_port + 1 * i) (i, lt, ap (λ i. w.first_port + i) (one-mul i))))

pub chans_same : (b : Book) (p : Pools) (c : ℕ) → ArePoolsOf b p → (k : ℕ) → is_free_chan p.chans c k ≡ is_chan_free b c k
chans_same b p c ok k = λ t. ok.chans c k t && ok.chans c (k + 1) t

-- the two ports of a pair of the whole are ports of the whole
first_port : (w : Whole) (q : ℕ) → InWhole w (Pair q) → InWhole w (Port q)
first_port w q at = (2 * at.0, omega (arith, at.1), at.2)

second_port : (w : Whole) (q : ℕ) → InWhole w (Pair q) → InWhole w (Port (q + 1))
second_port w q at = (2 * at.0 + 1, omega (arith, at.1), omega (arith, at.2))

pub pairs_same : (b : Book) (p : Pools) → ArePoolsOf b p → (q : ℕ) → InWhole p.pairs.whole (Pair q) → is_free_pair p.pairs q ≡ is_pair_free b q
pairs_same b p ok q at = λ t. ok.ports q (first_port p.pairs.whole q at) t && ok.ports (q + 1) (second_port p.pairs.whole q at) t

-- How many of two tests that agree.

count_same : (step : ℕ) (t u : ℕ → Bool) (p n : ℕ) → ((i : ℕ) → i < n → t (p + step * i) ≡ u (p + step * i)) → count_of step t p n ≡ count_of step u p n
unfolding count_of
count_same step t u p zero h = refl
count_same step t u p (suc n) h =
    let here : t p ≡ u p = ap t (sym (at_first step p)) ∙ h 0 (omega arith) ∙ ap u (at_first step p) in
    let rest : count_of step t (p + step) n ≡ count_of step u (p + step) n =
    count_same step t u (p + step) n (λ i lt. ap t (from_next step p i) ∙ h (i + 1) (omega (arith, lt)) ∙ sym (ap u (from_next step p i))) in
    omega (arith, ap one_if here, rest)

pub free_pairs_same : (b : Book) (p : Pools) → ArePoolsOf b p → pool_pairs p.pairs ≡ free_pairs p.pairs.whole b
free_pairs_same b p ok =
    let w = p.pairs.whole in
    count_same 2 (is_free_pair p.pairs) (is_pair_free b) w.first_port w.pairs (λ i lt. pairs_same b p ok (w.first_port + 2 * i) (i, lt, refl))

pub free_ports_same : (b : Book) (p : Pools) → ArePoolsOf b p → pool_ports p.pairs ≡ free_ports p.pairs.whole b
free_ports_same b p ok =
    let w = p.pairs.whole in
    count_same 1 (is_free_port p.pairs) (is_port_free b) w.first_port (2 * w.pairs)
    (λ i lt. ok.ports (w.first_port + 1 * i) (i, lt, ap (λ i. w.first_port + i) (one-mul i)))

-- What is free beside a thing, and without it.

-- the second book holds this beside what the first holds
abbrev pub HoldsMore : Thing → Book → Book → Type 0
HoldsMore x b c = (m : Measure) → amount m c ≡ amount m b + m.thing x

-- the first book holds this, which is of the whole, and the second is without it
pub record IsHeld (w : Whole) (x : Thing) (b c : Book) : Type 0 where
  pub in_whole : InWhole w x
  pub more : HoldsMore x c b
  pub once : (q : Spot) → amount (covering q) b ≤ 1

covers_port : (p : ℕ) → covers (UdpPort p) (Port p) ≡ true
covers_port p = eq-eqb p p refl

covers_first : (p : ℕ) → covers (UdpPort p) (Pair p) ≡ true
covers_first p = or_left (p == p) (p == p + 1) (eq-eqb p p refl)

covers_second : (p : ℕ) → covers (UdpPort (p + 1)) (Pair p) ≡ true
covers_second p = or_right (p + 1 == p) (p + 1 == p + 1) (eq-eqb (p + 1) (p + 1) refl)

covers_channel : (c k : ℕ) → covers (Channel c k) (Chan c k) ≡ true
covers_channel c k = and_from (c == c) (k == k || k == k + 1) (eq-eqb c c refl) (or_left (k == k) (k == k + 1) (eq-eqb k k refl))

module _ (x : Thing) (b c : Book) (more : HoldsMore x b c) (q : Spot) where
  -- with the thing what it covers isn't free, and all else is as without it
  free_beside : is_free c q ≡ (not (covers q x) && is_free b q)
  free_beside = beside (covers q x) (amount (covering q) b) (amount (covering q) c) (more (covering q))
    where
      beside : (t : Bool) (n m : ℕ) → m ≡ n + one_if t → (m == 0) ≡ (not t && n == 0)
      beside true n m h = ne_eqb m 0 (λ none. omega (arith, h, none))
      beside false n m h = let same : m ≡ n = omega (arith, h) in ap (λ n. n == 0) same

  isnt_free : covers q x ≡ true → is_free c q ≡ false
  isnt_free is = free_beside ∙ ap (λ t. not t && is_free b q) is

  -- without it, where nothing is held twice, what it covers is free
  free_without : amount (covering q) c ≤ 1 → is_free b q ≡ (covers q x || is_free c q)
  free_without once = without (covers q x) (amount (covering q) b) (amount (covering q) c) (more (covering q)) once
    where
      without : (t : Bool) (n m : ℕ) → m ≡ n + one_if t → m ≤ 1 → (n == 0) ≡ (t || m == 0)
      without true n m h le = let none : n ≡ 0 = omega (arith, h, le) in ap (λ n. n == 0) none
      without false n m h le = let same : n ≡ m = omega (arith, h) in ap (λ n. n == 0) same

-- A thing in the pools and in the book.

rate_is_free : (w : Whole) (b : Book) (n : ℕ) → amount rates b + n ≤ w.uplink → IsFree w b (Rate n)
rate_is_free w b n fits = record { in_whole = tt; free = none; rate = fits }
  where
    none : (q : Spot) → covers q (Rate n) ≡ true → amount (covering q) b ≡ 0
    none (UdpPort q) h = absurd cc
    none (Channel c l) h = absurd cc

pub same_free : (b : Book) (p : Pools) (x : Thing) → ArePoolsOf b p → InWhole p.pairs.whole x → (IsFreeIn p x → IsFree p.pairs.whole b x) × (IsFree p.pairs.whole b x → IsFreeIn p x)
same_free b p (Pair q) ok at = free_pair p.pairs.whole b q (is_free_pair p.pairs q) at (pairs_same b p ok q at)
same_free b p (Port q) ok at = free_port p.pairs.whole b q (is_free_port p.pairs q) at (ok.ports q at)
same_free b p (Chan c k) ok at = free_chan p.pairs.whole b c k (is_free_chan p.chans c k) at (chans_same b p c ok k)
same_free b p (Rate n) ok at = (λ h. rate_is_free p.pairs.whole b n (omega (arith, h, ok.rate, p.uplink)), λ f. omega (arith, f.rate, ok.rate, p.uplink))

pub held_in : (b c : Book) (p : Pools) (x : Thing) → ArePoolsOf b p → IsHeld p.pairs.whole x b c → IsHeldIn p x
held_in b c p (Pair q) ok is = (
  ok.ports q (first_port p.pairs.whole q is.in_whole) ∙ isnt_free (Pair q) c b is.more (UdpPort q) (covers_first q),
  ok.ports (q + 1) (second_port p.pairs.whole q is.in_whole) ∙ isnt_free (Pair q) c b is.more (UdpPort (q + 1)) (covers_second q),
)
held_in b c p (Port q) ok is = ok.ports q is.in_whole ∙ isnt_free (Port q) c b is.more (UdpPort q) (covers_port q)
held_in b c p (Chan d k) ok is = ok.chans d k ∙ isnt_free (Chan d k) c b is.more (Channel d k) (covers_channel d k)
held_in b c p (Rate n) ok is = omega (arith, ok.rate, is.more rates)

pub pools_taken : (b c : Book) {x : Thing} {old new : Pools} → IsTaken x old new → HoldsMore x b c → ArePoolsOf b old → ArePoolsOf c new
pools_taken b c {x = x} is more ok =
    record {
      ports = λ q at.
          let inside = subst (λ w. InWhole w (Port q)) is.whole at in
          is.ports q inside ∙ ap (λ t. not (covers (UdpPort q) x) && t) (ok.ports q inside) ∙ sym (free_beside x b c more (UdpPort q));
      chans = λ d l. is.chans d l ∙ ap (λ t. not (covers (Channel d l) x) && t) (ok.chans d l) ∙ sym (free_beside x b c more (Channel d l));
      rate = omega (arith, is.rate, ok.rate, more rates);
    }

pub pools_given : (b c : Book) {x : Thing} {old new : Pools} → IsGiven x old new → IsHeld old.pairs.whole x b c → ArePoolsOf b old → ArePoolsOf c new
pools_given b c {x = x} is held ok =
    record {
      ports = λ q at.
          let inside = subst (λ w. InWhole w (Port q)) is.whole at in
          is.ports q inside ∙ ap (λ t. covers (UdpPort q) x || t) (ok.ports q inside) ∙ sym (free_without x c b held.more (UdpPort q) (held.once (UdpPort q)));
      chans = λ d l. is.chans d l ∙ ap (λ t. covers (Channel d l) x || t) (ok.chans d l) ∙ sym (free_without x c b held.more (Channel d l) (held.once (Channel d l)));
      rate = omega (arith, is.rate, ok.rate, held.more rates);
    }

-- Records.

pub held_after : (w : Whole) (b : Book) (r : Record) (k : Holding) → r ≡ Hold k → Follows w b r → IsFree w b k.thing × HoldsMore k.thing b (after b r)
held_after w b r k is =
    subst (λ r. Follows w b r → IsFree w b k.thing × HoldsMore k.thing b (after b r)) (sym is)
    (λ f. (f.allowed.1, λ m. omega (arith, balance m b (Hold k) f.allowed.0)))

held_in_whole : (w : Whole) (a : ℕ) (x : Thing) (o : Option Session) → SoundRow w o → Living o (λ f. MayFree f a x) → InWhole w x
held_in_whole w a x None ok h = absurd h
held_in_whole w a (Rate n) (Some f) ok h = tt
held_in_whole w a x (Some f) ok h = (ok.in_whole a x h.held).0

pub freed_after : (w : Whole) (b : Book) (r : Record) (k : Holding) → r ≡ Free k → Follows w b r → IsHeld w k.thing b (after b r)
freed_after w b r k is =
    subst (λ r. Follows w b r → IsHeld w k.thing b (after b r)) (sym is)
    (λ f. record {
      in_whole = held_in_whole w k.admission k.thing (get b k.session) (f.sound.rows k.session) f.allowed.0;
      more = λ m. sym (omega (arith, balance m b (Free k) f.allowed.0));
      once = f.sound.once;
    })

-- the same is held
abbrev pub HoldsSame : Book → Book → Type 0
HoldsSame b c = ((q : Spot) → amount (covering q) c ≡ amount (covering q) b) × (held_rate c ≡ held_rate b)

holds_same : (b : Book) (r : Record) → ((k : Holding) → r ≡ Hold k → ⊥) → ((k : Holding) → r ≡ Free k → ⊥) → Own r (get b (session_of r)) → HoldsSame b (after b r)
holds_same b (Hold k) h g own = absurd (h k refl)
holds_same b (Free k) h g own = absurd (g k refl)
holds_same b r h g own = (λ q. omega (arith, balance (covering q) b r own), omega (arith, balance rates b r own))

pub pools_stay : (w : Whole) (b : Book) (r : Record) (p : Pools) → ((k : Holding) → r ≡ Hold k → ⊥) → ((k : Holding) → r ≡ Free k → ⊥) → Follows w b r → ArePoolsOf b p → ArePoolsOf (after b r) p
pools_stay w b r p h g f ok =
    let same = holds_same b r h g f.allowed.0 in
    record {
      ports = λ q at. ok.ports q at ∙ sym (ap (λ n. n == 0) (same.0 (UdpPort q)));
      chans = λ d l. ok.chans d l ∙ sym (ap (λ n. n == 0) (same.0 (Channel d l)));
      rate = ok.rate ∙ sym same.1;
    }
