-- What becomes of a roster where a key comes into a line or leaves it, or something begins or ends to live.
use Rattle.std.specs.Prelude.{Result, Ok, Err, IfOk, OnErr}
use Rattle.std.proofs.Common.{◌≡◌, ⊎_elim, inl, inr, ◌⊎◌, ℕ, ◌+◌, ◌≤◌, ◌<◌, ◌==◌, Bool, List, [], ◌∷◌, ◌++◌, Option, Some, None, is_some, cond, ap, refl, sym, ◌∙◌, subst, arith}
use Rattle.std.proofs.lemmas.Bool.{cases_eq, false≢true}
use Rattle.std.proofs.lemmas.List.Sums.{sum_by-cons, sum_by_push}
use Rattle.slab.specs.Slab.{Slab, ContainsKey, Updates, get, with_value}
use Rattle.slab.proofs.SlabLemmas.{Updates-with_value}
use Rattle.rtsp_roster.specs.Lines.{Keys, IsIn, IsOut, TakesFirst, TakesOut, times}
use Rattle.rtsp_roster.specs.Rosters.{IsRoster}
use Rattle.rtsp_roster.proofs.Lining.{one, here, elsewhere, without_fewer, without_gone}

-- the first key of a line is taken
pub first_fewer : (old : Keys) (key : Option ℕ) (new : Keys) → TakesFirst old key new → (q : ℕ) → times q new.keys ≤ times q old.keys
first_fewer old (Some key) new takes q = omega (arith, ap (λ l. times q l) takes.0, sum_by-cons (λ k. one (k == q)) key new.keys)
first_fewer old None new takes q = omega (arith, ap (λ k. times q k.keys) takes.1)

pub first_room : (old : Keys) (key : Option ℕ) (new : Keys) → TakesFirst old key new → new.room ≡ old.room
first_room old (Some key) new takes = takes.1
first_room old None new takes = ap (λ k. k.room) takes.1

-- a key that is taken out
out_fewer : (old new : Keys) (key : ℕ) → TakesOut old key new → times key old.keys ≤ 1 → (q : ℕ) → times q new.keys ≤ times q old.keys
out_fewer old new key out most q =
    ⊎_elim
    (λ (e : times key old.keys ≡ 1). without_fewer old.keys new.keys key (out.gone e) q)
    (λ (n : times key old.keys ≡ 1 → ⊥). omega (arith, ap (λ l. times q l) (out.was_out (omega (arith, most, n)))))
    (cases_eq (times key old.keys) 1)

out_gone : (old new : Keys) (key : ℕ) → TakesOut old key new → times key old.keys ≤ 1 → times key new.keys ≡ 0
out_gone old new key out most =
    ⊎_elim
    (λ (e : times key old.keys ≡ 1). omega (arith, without_gone old.keys new.keys key (out.gone e), e))
    (λ (n : times key old.keys ≡ 1 → ⊥). let none : times key old.keys ≡ 0 = omega (arith, most, n) in ap (λ l. times key l) (out.was_out none) ∙ none)
    (cases_eq (times key old.keys) 1)

-- how often each is there once a key came
more : (keys : List ℕ) (key q : ℕ) → times q (keys ++ key ∷ []) ≡ times q keys + one (key == q)
more keys key q = sum_by_push (λ k. one (k == q)) keys key

module _ {T : Type 0} where
  -- with fewer keys in the lines
  pub fewer : (living : Slab T) (f a f1 a1 : Keys) → IsRoster living f a → f1.room ≡ f.room → a1.room ≡ a.room
      → ((q : ℕ) → times q f1.keys ≤ times q f.keys) → ((q : ℕ) → times q a1.keys ≤ times q a.keys) → IsRoster living f1 a1
  fewer living f a f1 a1 is fr ar fl al = record {
    once = λ q. omega (arith, is.once q, fl q, al q);
    fresh_lives = λ q is_in. is.fresh_lives q (omega (arith, is_in, is.once q, fl q, al q));
    again_lives = λ q is_in. is.again_lives q (omega (arith, is_in, is.once q, fl q, al q));
    fresh_room = λ q lives. omega (arith, is.fresh_room q lives, fr);
    again_room = λ q lives. omega (arith, is.again_room q lives, ar);
  }

  -- a key that is in neither line comes to one of them
  pub fresh_more : (living : Slab T) (f a f1 : Keys) (key : ℕ) → IsRoster living f a → ContainsKey living key
      → IsOut key f.keys → IsOut key a.keys → f1.room ≡ f.room → f1.keys ≡ f.keys ++ key ∷ [] → IsRoster living f1 a
  fresh_more living f a f1 key is lives fo ao room e =
      let n = λ (q : ℕ). ap (λ l. times q l) e ∙ more f.keys key q in record {
        once = λ q. ⊎_elim
            (λ (s : q ≡ key). subst (λ p. times p f1.keys + times p a.keys ≤ 1) (sym s) (omega (arith, n key, here key, fo, ao)))
            (λ (d : q ≡ key → ⊥). omega (arith, n q, elsewhere key q d, is.once q))
            (cases_eq q key);
        fresh_lives = λ q is_in. ⊎_elim
            (λ (s : q ≡ key). subst (ContainsKey living) (sym s) lives)
            (λ (d : q ≡ key → ⊥). is.fresh_lives q (omega (arith, is_in, n q, elsewhere key q d)))
            (cases_eq q key);
        again_lives = is.again_lives;
        fresh_room = λ q l. omega (arith, is.fresh_room q l, room);
        again_room = is.again_room;
      }

  -- the two lines in the other order
  pub turned : (living : Slab T) (f a : Keys) → IsRoster living f a → IsRoster living a f
  turned living f a is = record {
    once = λ q. omega (arith, is.once q);
    fresh_lives = is.again_lives;
    again_lives = is.fresh_lives;
    fresh_room = is.again_room;
    again_room = is.fresh_room;
  }

  -- a key that isn't in the queue is in neither line
  pub unqueued : (living : Slab T) (f a : Keys) (key : ℕ) → IsRoster living f a → (IsIn key f.keys ⊎ IsIn key a.keys → ⊥) → IsOut key f.keys × IsOut key a.keys
  unqueued living f a key is not_in =
      (out (times key f.keys) (omega (arith, is.once key)) (λ e. not_in (inl e)), out (times key a.keys) (omega (arith, is.once key)) (λ e. not_in (inr e)))
    where
      out : (n : ℕ) → n ≤ 1 → (n ≡ 1 → ⊥) → n ≡ 0
      out n le ne = omega (arith, le, ne)

  -- who lives after a value was written
  on : (s : Slab T) (key k : ℕ) (w : T) → ContainsKey s key → ContainsKey s k → ContainsKey (with_value s key w) k
  on s key k w at is =
      let u = Updates-with_value s key w at in
      ⊎_elim
      (λ (e : k ≡ key). subst (ContainsKey (with_value s key w)) (sym e) (ap is_some u.changed))
      (λ (n : k ≡ key → ⊥). ap is_some (u.others k n) ∙ is)
      (cases_eq k key)

  before : (s : Slab T) (key k : ℕ) (w : T) → ContainsKey s key → ContainsKey (with_value s key w) k → ContainsKey s k
  before s key k w at is =
      let u = Updates-with_value s key w at in
      ⊎_elim (λ (e : k ≡ key). subst (ContainsKey s) (sym e) at) (λ (n : k ≡ key → ⊥). ap is_some (sym (u.others k n)) ∙ is) (cases_eq k key)

  pub lent : (s : Slab T) (f a : Keys) (key : ℕ) (w : T) → ContainsKey s key → IsRoster s f a → IsRoster (with_value s key w) f a
  lent s f a key w at is = record {
    once = is.once;
    fresh_lives = λ q is_in. on s key q w at (is.fresh_lives q is_in);
    again_lives = λ q is_in. on s key q w at (is.again_lives q is_in);
    fresh_room = λ q l. is.fresh_room q (before s key q w at l);
    again_room = λ q l. is.again_room q (before s key q w at l);
  }

  -- one more lives, and there is room for it
  pub placed : (s t : Slab T) (f a f1 a1 : Keys) (key : ℕ) (w : T) → IsRoster s f a → Updates s t key (Some w)
      → f1.keys ≡ f.keys → a1.keys ≡ a.keys → f.room ≤ f1.room → a.room ≤ a1.room → key < f1.room → key < a1.room → IsRoster t f1 a1
  placed s t f a f1 a1 key w is u fk ak fr ar fin ain = record {
    once = λ q. omega (arith, is.once q, ap (λ l. times q l) fk, ap (λ l. times q l) ak);
    fresh_lives = λ q is_in. lives q (λ (e : Unit {0}). is.fresh_lives q (ap (λ l. times q l) (sym fk) ∙ is_in));
    again_lives = λ q is_in. lives q (λ (e : Unit {0}). is.again_lives q (ap (λ l. times q l) (sym ak) ∙ is_in));
    fresh_room = λ q l. room q f.room f1.room l is.fresh_room fr fin;
    again_room = λ q l. room q a.room a1.room l is.again_room ar ain;
  }
    where
      lives : (q : ℕ) → (Unit {0} → ContainsKey s q) → ContainsKey t q
      lives q was = ⊎_elim (λ (e : q ≡ key). subst (ContainsKey t) (sym e) (ap is_some u.changed)) (λ (n : q ≡ key → ⊥). ap is_some (u.others q n) ∙ was tt) (cases_eq q key)

      room : (q r r1 : ℕ) → ContainsKey t q → ((k : ℕ) → ContainsKey s k → k < r) → r ≤ r1 → key < r1 → q < r1
      room q r r1 l all wide has =
          ⊎_elim (λ (e : q ≡ key). omega (arith, e, has)) (λ (n : q ≡ key → ⊥). omega (arith, all q (ap is_some (sym (u.others q n)) ∙ l), wide)) (cases_eq q key)

  -- there is room for more
  pub roomier : (s t : Slab T) (f a f1 a1 : Keys) → IsRoster s f a → ((k : ℕ) → get t k ≡ get s k)
      → f1.keys ≡ f.keys → a1.keys ≡ a.keys → f.room ≤ f1.room → a.room ≤ a1.room → IsRoster t f1 a1
  roomier s t f a f1 a1 is same fk ak fr ar = record {
    once = λ q. omega (arith, is.once q, ap (λ l. times q l) fk, ap (λ l. times q l) ak);
    fresh_lives = λ q is_in. ap is_some (same q) ∙ is.fresh_lives q (ap (λ l. times q l) (sym fk) ∙ is_in);
    again_lives = λ q is_in. ap is_some (same q) ∙ is.again_lives q (ap (λ l. times q l) (sym ak) ∙ is_in);
    fresh_room = λ q l. omega (arith, is.fresh_room q (ap is_some (sym (same q)) ∙ l), fr);
    again_room = λ q l. omega (arith, is.again_room q (ap is_some (sym (same q)) ∙ l), ar);
  }

  -- one lives no more, and is in no line
  pub removed : (s t : Slab T) (f a f1 a1 : Keys) (key : ℕ) → IsRoster s f a → Updates s t key None → TakesOut f key f1 → TakesOut a key a1 → IsRoster t f1 a1
  removed s t f a f1 a1 key is u fo ao =
      let fl = out_fewer f f1 key fo (omega (arith, is.once key)) in
      let al = out_fewer a a1 key ao (omega (arith, is.once key)) in
      let fg = out_gone f f1 key fo (omega (arith, is.once key)) in
      let ag = out_gone a a1 key ao (omega (arith, is.once key)) in record {
        once = λ q. omega (arith, is.once q, fl q, al q);
        fresh_lives = λ q is_in. lives q f1 fg is_in (is.fresh_lives q (omega (arith, is_in, is.once q, fl q, al q)));
        again_lives = λ q is_in. lives q a1 ag is_in (is.again_lives q (omega (arith, is_in, is.once q, fl q, al q)));
        fresh_room = λ q l. omega (arith, is.fresh_room q (lived q l), fo.room);
        again_room = λ q l. omega (arith, is.again_room q (lived q l), ao.room);
      }
    where
      lives : (q : ℕ) (k : Keys) → times key k.keys ≡ 0 → IsIn q k.keys → ContainsKey s q → ContainsKey t q
      lives q k gone is_in was =
          ap is_some (u.others q (λ (e : q ≡ key). absurd (omega (arith, gone, is_in, ap (λ p. times p k.keys) e)))) ∙ was

      lived : (q : ℕ) → ContainsKey t q → ContainsKey s q
      lived q l =
          ap is_some (sym (u.others q (λ (e : q ≡ key). absurd (false≢true (sym (ap is_some u.changed) ∙ ap (λ p. is_some (get t p)) (sym e) ∙ l))))) ∙ l

  -- one came to live, or there was no memory for it
  pub inserted : {E : Type 0} (r : Result ℕ E) (s t : Slab T) (f a f1 a1 : Keys) (w : T) (vacant : ℕ) → IsRoster s f a
      → IfOk r (λ key. Updates s t key (Some w)) → IfOk r (λ key. key ≡ vacant) → OnErr r (t ≡ record s { capacity = t.capacity })
      → f1.keys ≡ f.keys → a1.keys ≡ a.keys → f.room ≤ f1.room → a.room ≤ a1.room → vacant < f1.room → vacant < a1.room → IsRoster t f1 a1
  inserted (Ok key) s t f a f1 a1 w vacant is u at e fk ak fr ar fin ain =
      placed s t f a f1 a1 key w is u fk ak fr ar (omega (arith, at, fin)) (omega (arith, at, ain))
  inserted (Err x) s t f a f1 a1 w vacant is u at e fk ak fr ar fin ain =
      roomier s t f a f1 a1 is (λ k. ap (λ z. get z k) e) fk ak fr ar
