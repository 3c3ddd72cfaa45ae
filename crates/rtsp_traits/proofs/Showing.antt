-- What a port set has shows in its calls.
use Rattle.std.proofs.Common.{◌≡◌, ◌≢◌, ◌≤◌, ◌==◌, ℕ, ◌-◌, ◌%◌, Bool, true, false, ◌&&◌, ◌||◌, not, List, refl, sym, ◌∙◌, ap, subst, arith, inl, inr}
use Rattle.std.specs.Prelude.{Option, Some, None, slice_get}
use Rattle.std.proofs.lemmas.Bool.{cases_eq, and_parts, and_from}
use Rattle.std.proofs.lemmas.Bool.Decides.{Decides-eqb, nat_tests}
use Rattle.rtsp_record.specs.declared.holdings.Thing.{Thing}
use Rattle.rtsp_record.specs.declared.holdings.Thing.TheVariants.{Pair, Port, Rate}
use Rattle.rtsp_record.specs.Rules.{is_same_thing}
use Rattle.rtsp_record.proofs.SameWords.{same_thing}
use Rattle.rtsp_admit.specs.Addresses.{is_address, ShowsAddresses}
use Rattle.rtsp_traits.specs.declared.port_set.PortSet.{PortSet}
use Rattle.rtsp_traits.specs.PortSet.{calls, IsOwnPair, IsOwnPort, pair_place, port_place, slot, IsBoundUnder, OnlyAt, Binds, Fails, Unbinds}
use Rattle.rtsp_traits.specs.Has.{is_own, is_of, has}

-- Tests.

and_false : (v : Bool) → (v && false) ≡ false
and_false true = refl
and_false false = refl

or_false : (v : Bool) → v ≡ (v || false)
or_false true = refl
or_false false = refl

and_true : (v : Bool) → v ≡ (v && true)
and_true true = refl
and_true false = refl

eqb_sym : (a n : ℕ) → (a == n) ≡ (n == a)
eqb_sym a n = grind (arith, nat_tests)

eqb_same : (p : ℕ) → (p == p) ≡ true
eqb_same p = (Decides-eqb p p).1 refl

eqb_apart : (q p : ℕ) → q ≢ p → (q == p) ≡ false
eqb_apart q p apart = grind (arith, nat_tests)

same_address : (a n : ℕ) (x y : Thing) → is_same_thing y x ≡ true → is_address a x n y ≡ (n == a)
same_address a n x y e = ap (λ v. (n == a) && v) e ∙ sym (and_true (n == a))

pair_own : (f p : ℕ) → IsOwnPair f p → is_own f (Pair p) ≡ true
pair_own f p h = let low : f ≤ p = h.0 in let even : (p - f) % 2 ≡ 0 = h.1 in grind (arith, nat_tests)

own_pair : (f p : ℕ) → is_own f (Pair p) ≡ true → IsOwnPair f p
own_pair f p h = (grind (arith, nat_tests), grind (arith, nat_tests))

port_own : (f p : ℕ) → IsOwnPort f p → is_own f (Port p) ≡ true
port_own f p low = grind (arith, nat_tests)

own_port : (f p : ℕ) → is_own f (Port p) ≡ true → IsOwnPort f p
own_port f p h = grind (arith, nat_tests)

-- two pairs have two places
pairs_apart : (f p q : ℕ) → IsOwnPair f p → IsOwnPair f q → q ≢ p → pair_place f q ≢ pair_place f p
pairs_apart f p q h k apart e = apart (omega (arith, h.0, h.1, k.0, k.1, e))

ports_apart : (f p q : ℕ) → IsOwnPort f p → IsOwnPort f q → q ≢ p → port_place f q ≢ port_place f p
ports_apart f p q h k apart e = apart (omega (arith, h, k, e))

either : {P : Type 0} (b : Bool) → (b ≡ true → P) → (b ≡ false → P) → P
either true here there = here refl
either false here there = there refl

is_of_this : (o : Option (Option ℕ)) (n : ℕ) → is_of o n ≡ true → o ≡ Some (Some n)
is_of_this (Some (Some a)) n h = ap (λ z. Some (Some z)) ((Decides-eqb a n).0 h)
is_of_this o n h = absurd cc

-- what was not there is not taken away
less_absent : (v it : Bool) → (it ≡ true → v ≡ false) → v ≡ (v && not it)
less_absent v true h = h refl ∙ sym (and_false v)
less_absent v false h = and_true v

less_itself : (v : Bool) → false ≡ (v && not v)
less_itself true = refl
less_itself false = refl

-- Addresses of one kind, each with a place of its own.
module _ (own : ℕ → Bool) (place : ℕ → ℕ) (apart : (p q : ℕ) → own p ≡ true → own q ≡ true → q ≢ p → place q ≢ place p) where
  abbrev at : List (Option ℕ) → ℕ → ℕ → Bool
  at xs n q = own q && is_of (slice_get xs (place q)) n

  abbrev this : ℕ → ℕ → ℕ → ℕ → Bool
  this a p n q = (n == a) && (q == p)

  at_own : (xs : List (Option ℕ)) (n p : ℕ) (o : Option (Option ℕ)) → own p ≡ true → slice_get xs (place p) ≡ o → at xs n p ≡ is_of o n
  at_own xs n p o is e = ap (λ v. v && is_of (slice_get xs (place p)) n) is ∙ ap (λ z. is_of z n) e

  this_here : (a p n : ℕ) → this a p n p ≡ (n == a)
  this_here a p n = ap (λ v. (n == a) && v) (eqb_same p) ∙ sym (and_true (n == a))

  this_there : (a p n q : ℕ) → q ≢ p → this a p n q ≡ false
  this_there a p n q differs = ap (λ v. (n == a) && v) (eqb_apart q p differs) ∙ and_false (n == a)

  there : (p : ℕ) (old new : List (Option ℕ)) → own p ≡ true → OnlyAt (place p) old new → (n q : ℕ) → q ≢ p → at new n q ≡ at old n q
  there p old new is others n q differs = either (own q)
      (λ e. ap (λ z. own q && is_of z n) (others (place q) (apart p q is e differs)))
      (λ e. ap (λ v. v && is_of (slice_get new (place q)) n) e ∙ sym (ap (λ v. v && is_of (slice_get old (place q)) n) e))

  bound_here : (a p : ℕ) (old new : List (Option ℕ)) → own p ≡ true → slice_get old (place p) ≡ Some None → slice_get new (place p) ≡ Some (Some a) → (n : ℕ) → at new n p ≡ (at old n p || this a p n p)
  bound_here a p old new is free bound n =
      at_own new n p (Some (Some a)) is bound
      ∙ eqb_sym a n
      ∙ sym (this_here a p n)
      ∙ ap (λ v. v || this a p n p) (sym (at_own old n p (Some None) is free))

  bound_at : (a p : ℕ) (old new : List (Option ℕ)) → own p ≡ true → slice_get old (place p) ≡ Some None → slice_get new (place p) ≡ Some (Some a) → OnlyAt (place p) old new
      → (n q : ℕ) → at new n q ≡ (at old n q || this a p n q)
  bound_at a p old new is free bound others n q = elim (cases_eq q p) [
    | inl e ↦ subst (λ q. at new n q ≡ (at old n q || this a p n q)) (sym e) (bound_here a p old new is free bound n)
    | inr differs ↦ there p old new is others n q differs ∙ or_false (at old n q) ∙ ap (λ v. at old n q || v) (sym (this_there a p n q differs))
  ]

  freed_here : (a p : ℕ) (old new : List (Option ℕ)) → own p ≡ true → slice_get old (place p) ≡ Some (Some a) → slice_get new (place p) ≡ Some None → (n : ℕ) → at new n p ≡ (at old n p && not (this a p n p))
  freed_here a p old new is under free n =
      at_own new n p (Some None) is free
      ∙ less_itself (n == a)
      ∙ ap (λ v. v && not (n == a)) (eqb_sym n a ∙ sym (at_own old n p (Some (Some a)) is under))
      ∙ ap (λ v. at old n p && not v) (sym (this_here a p n))

  freed_at : (a p : ℕ) (old new : List (Option ℕ)) → own p ≡ true → slice_get old (place p) ≡ Some (Some a) → slice_get new (place p) ≡ Some None → OnlyAt (place p) old new
      → (n q : ℕ) → at new n q ≡ (at old n q && not (this a p n q))
  freed_at a p old new is under free others n q = elim (cases_eq q p) [
    | inl e ↦ subst (λ q. at new n q ≡ (at old n q && not (this a p n q))) (sym e) (freed_here a p old new is under free n)
    | inr differs ↦ there p old new is others n q differs ∙ and_true (at old n q) ∙ ap (λ v. at old n q && not v) (sym (this_there a p n q differs))
  ]

pairs_apart_own : (f p q : ℕ) → is_own f (Pair p) ≡ true → is_own f (Pair q) ≡ true → q ≢ p → pair_place f q ≢ pair_place f p
pairs_apart_own f p q h k differs = pairs_apart f p q (own_pair f p h) (own_pair f q k) differs

ports_apart_own : (f p q : ℕ) → is_own f (Port p) ≡ true → is_own f (Port q) ≡ true → q ≢ p → port_place f q ≢ port_place f p
ports_apart_own f p q h k differs = ports_apart f p q (own_port f p h) (own_port f q k) differs

-- Sets.

has_bound : (b : PortSet) (a : ℕ) (x : Thing) → has b a x ≡ true → IsBoundUnder b a x
has_bound b a (Pair p) h = let parts = and_parts _ _ h in record { own = own_pair b.first_port p parts.0; under = is_of_this (slot b (Pair p)) a parts.1 }
has_bound b a (Port p) h = let parts = and_parts _ _ h in record { own = own_port b.first_port p parts.0; under = is_of_this (slot b (Port p)) a parts.1 }
has_bound b a x h = absurd cc

bound_has : (b : PortSet) (a : ℕ) (x : Thing) → IsBoundUnder b a x → has b a x ≡ true
bound_has b a (Pair p) h = and_from _ _ (pair_own b.first_port p h.own) (ap (λ o. is_of o a) h.under ∙ eqb_same a)
bound_has b a (Port p) h = and_from _ _ (port_own b.first_port p h.own) (ap (λ o. is_of o a) h.under ∙ eqb_same a)
bound_has b a x h = absurd h.own

-- pairs of a set, and of one with the same first port
abbrev has_pair : ℕ → List (Option ℕ) → ℕ → ℕ → Bool
has_pair f = at (λ p. is_own f (Pair p)) (pair_place f) (pairs_apart_own f)

abbrev has_port : ℕ → List (Option ℕ) → ℕ → ℕ → Bool
has_port f = at (λ p. is_own f (Port p)) (port_place f) (ports_apart_own f)

fresh_law : (b c : PortSet) (a : ℕ) (x : Thing) → Binds b a x c → has b a x ≡ false
fresh_law b c a (Pair p) h = ap (λ o. is_own b.first_port (Pair p) && is_of o a) h.free.1 ∙ and_false (is_own b.first_port (Pair p))
fresh_law b c a (Port p) h = ap (λ o. is_own b.first_port (Port p) && is_of o a) h.free.1 ∙ and_false (is_own b.first_port (Port p))
fresh_law b c a x h = absurd h.free

-- what is kept of the other kind
kept_port : (b c : PortSet) → c.ports.items ≡ b.ports.items → c.first_port ≡ b.first_port → (n q : ℕ) → has c n (Port q) ≡ has b n (Port q)
kept_port b c e f n q = ap (λ xs. has_port c.first_port xs n q) e ∙ ap (λ z. has_port z b.ports.items n q) f

kept_pair : (b c : PortSet) → c.pairs.items ≡ b.pairs.items → c.first_port ≡ b.first_port → (n q : ℕ) → has c n (Pair q) ≡ has b n (Pair q)
kept_pair b c e f n q = ap (λ xs. has_pair c.first_port xs n q) e ∙ ap (λ z. has_pair z b.pairs.items n q) f

more_none : (a n : ℕ) (v it : Bool) → it ≡ false → v ≡ (v || ((n == a) && it))
more_none a n v it e = or_false v ∙ ap (λ w. v || w) (sym (ap (λ w. (n == a) && w) e ∙ and_false (n == a)))

less_none : (a n : ℕ) (v it : Bool) → it ≡ false → v ≡ (v && not ((n == a) && it))
less_none a n v it e = and_true v ∙ ap (λ w. v && not w) (sym (ap (λ w. (n == a) && w) e ∙ and_false (n == a)))

bound_law : (b c : PortSet) (a : ℕ) (x : Thing) → Binds b a x c → (n : ℕ) (y : Thing) → has c n y ≡ (has b n y || is_address a x n y)
bound_law b c a (Pair p) h n (Pair q) =
    let f = b.first_port in
    let now : slice_get c.pairs.items (pair_place f p) ≡ Some (Some a) = subst (λ z. slice_get c.pairs.items (pair_place z p) ≡ Some (Some a)) h.first h.bound in
    ap (λ z. has_pair z c.pairs.items n q) h.first
    ∙ bound_at (λ p. is_own f (Pair p)) (pair_place f) (pairs_apart_own f) a p b.pairs.items c.pairs.items (pair_own f p h.free.0) h.free.1 now h.others.0 n q
bound_law b c a (Pair p) h n (Port q) = kept_port b c h.others.1 h.first n q ∙ more_none a n (has b n (Port q)) false refl
bound_law b c a (Pair p) h n y = more_none a n false false refl
bound_law b c a (Port p) h n (Port q) =
    let f = b.first_port in
    let now : slice_get c.ports.items (port_place f p) ≡ Some (Some a) = subst (λ z. slice_get c.ports.items (port_place z p) ≡ Some (Some a)) h.first h.bound in
    ap (λ z. has_port z c.ports.items n q) h.first
    ∙ bound_at (λ p. is_own f (Port p)) (port_place f) (ports_apart_own f) a p b.ports.items c.ports.items (port_own f p h.free.0) h.free.1 now h.others.0 n q
bound_law b c a (Port p) h n (Pair q) = kept_pair b c h.others.1 h.first n q ∙ more_none a n (has b n (Pair q)) false refl
bound_law b c a (Port p) h n y = more_none a n false false refl
bound_law b c a x h n y = absurd h.free

failed_law : (b c : PortSet) (a : ℕ) (x : Thing) → Fails b a x c → (n : ℕ) (y : Thing) → has c n y ≡ has b n y
failed_law b c a x h n (Rate m) = refl
failed_law b c a x h n y = ap (λ (z : PortSet). has z n y) h.counted

freed_law : (b c : PortSet) (a : ℕ) (x : Thing) → IsBoundUnder b a x → Unbinds b a x c → (n : ℕ) (y : Thing) → has c n y ≡ (has b n y && not (is_address a x n y))
freed_law b c a (Pair p) bound h n (Pair q) =
    let f = b.first_port in
    let now : slice_get c.pairs.items (pair_place f p) ≡ Some None = subst (λ z. slice_get c.pairs.items (pair_place z p) ≡ Some None) h.first (h.freed bound) in
    ap (λ z. has_pair z c.pairs.items n q) h.first
    ∙ freed_at (λ p. is_own f (Pair p)) (pair_place f) (pairs_apart_own f) a p b.pairs.items c.pairs.items (pair_own f p bound.own) bound.under now h.others.0 n q
freed_law b c a (Pair p) bound h n (Port q) = kept_port b c h.others.1 h.first n q ∙ less_none a n (has b n (Port q)) false refl
freed_law b c a (Pair p) bound h n y = less_none a n false false refl
freed_law b c a (Port p) bound h n (Port q) =
    let f = b.first_port in
    let now : slice_get c.ports.items (port_place f p) ≡ Some None = subst (λ z. slice_get c.ports.items (port_place z p) ≡ Some None) h.first (h.freed bound) in
    ap (λ z. has_port z c.ports.items n q) h.first
    ∙ freed_at (λ p. is_own f (Port p)) (port_place f) (ports_apart_own f) a p b.ports.items c.ports.items (port_own f p bound.own) bound.under now h.others.0 n q
freed_law b c a (Port p) bound h n (Pair q) = kept_pair b c h.others.1 h.first n q ∙ less_none a n (has b n (Pair q)) false refl
freed_law b c a (Port p) bound h n y = less_none a n false false refl
freed_law b c a x bound h n y = absurd bound.own

-- what isn't bound stays as it is
none_freed : (b c : PortSet) (a : ℕ) (x : Thing) → has b a x ≡ false → Unbinds b a x c → (n : ℕ) (y : Thing) → has c n y ≡ (has b n y && not (is_address a x n y))
none_freed b c a x none h n y =
    let same = h.same (λ bound. true_false (sym (bound_has b a x bound) ∙ none)) in
    ap (λ (z : PortSet). has z n y) same
    ∙ less_absent (has b n y) (is_address a x n y) (λ is.
    let parts = and_parts (n == a) (is_same_thing y x) is in ap (λ n. has b n y) ((Decides-eqb n a).0 parts.0) ∙ ap (λ y. has b a y) (same_thing y x parts.1) ∙ none)
  where
    true_false : true ≡ false → ⊥
    true_false e = cc

unbound_law : (b c : PortSet) (a : ℕ) (x : Thing) → Unbinds b a x c → (n : ℕ) (y : Thing) → has c n y ≡ (has b n y && not (is_address a x n y))
unbound_law b c a x h n y = either (has b a x) (λ e. freed_law b c a x (has_bound b a x e) h n y) (λ e. none_freed b c a x e h n y)

pub ports_show : ShowsAddresses calls has
ports_show = record { fresh = fresh_law; bound = bound_law; failed = failed_law; unbound = unbound_law }
