-- What is written and what waits, over one call.
use Rattle.std.proofs.Common.{◌≡◌, ◌≢◌, ◌≤◌, ◌<◌, ◌+◌, ◌⊎◌, ℕ, Bool, true, false, List, [], ◌∷◌, ◌++◌, Option, None, Some, refl, sym, subst, ◌∙◌, ap, append-nil, take, drop, take-append-drop, take_all, length, inl, inr, arith}
use Rattle.std.proofs.lemmas.Bool.{false≢true}
use Rattle.rtsp_sockets.specs.Rooms.{all_room, frame_room}
use Rattle.rtsp_sockets.specs.Passing.{Waiting, IsAlike, IsClosed, IsShut, LacksRoom, Passes, Puts, Holds, Flushed, Asks, Breaks, Ends, offered, offered_when, flushed, first_of, takes}
use Rattle.rtsp_sockets.specs.declared.message.Message.{Message}
use Rattle.rtsp_sockets.specs.declared.message.Message.TheVariants as message
use Rattle.rtsp_sockets.specs.declared.pending.Condition.{Condition}
use Rattle.rtsp_sockets.specs.declared.pending.Condition.TheVariants as condition
use Rattle.rtsp_sockets.specs.declared.put.Put.{Put}
use Rattle.rtsp_sockets.specs.declared.put.Put.TheVariants as put

-- a message that is taken where nothing waits is offered
offers_all : (w : Waiting) (kind : Message) (bytes : List ℕ) → takes w.condition kind ≡ true → w.bytes ≡ [] → Some bytes ≡ offered w kind bytes
offers_all w kind bytes t e =
    subst (λ b. Some bytes ≡ offered_when b w.bytes bytes) (sym t) (subst (λ waits. Some bytes ≡ offered_when true waits bytes) (sym e) refl)

-- one that isn't taken isn't offered
offers_none : (w : Waiting) (kind : Message) (bytes : List ℕ) → takes w.condition kind ≡ false → None ≡ offered w kind bytes
offers_none w kind bytes t = subst (λ b. None ≡ offered_when b w.bytes bytes) (sym t) refl

-- nor is one behind others
behind : (b : Bool) (waits bytes : List ℕ) → waits ≢ [] → None ≡ offered_when b waits bytes
behind false waits bytes e = refl
behind true [] bytes e = absurd (e refl)
behind true (byte ∷ waits) bytes e = refl

-- what waits is offered
flushes : (waits : List ℕ) → waits ≢ [] → Some waits ≡ flushed waits
flushes [] e = absurd (e refl)
flushes (byte ∷ waits) e = refl

-- room is lacking alike where only the moment was noted before
lacks_alike : (most count : ℕ) (old mid : Waiting) → mid.bytes ≡ old.bytes → mid.spare ≡ old.spare → mid.lent ≡ old.lent → LacksRoom most mid count → LacksRoom most old count
lacks_alike most count old mid e p l h =
    subst (λ bytes. (most + old.lent < count) ⊎ (length bytes + old.spare < count)) e
    (subst (λ spare. (most + old.lent < count) ⊎ (length mid.bytes + spare < count)) p
    (subst (λ lent. (most + lent < count) ⊎ (length mid.bytes + mid.spare < count)) l h))

alike_holds : (old mid new : Waiting) (kind : Message) (bytes : List ℕ) (r : Put) → mid.bytes ≡ old.bytes → mid.spare ≡ old.spare → mid.lent ≡ old.lent → IsAlike old mid → Holds mid kind bytes new r → Holds old kind bytes new r
alike_holds old mid new kind bytes put.Sent e p l s h = absurd h
alike_holds old mid new kind bytes put.Kept e p l s h = (h.0 ∙ ap (λ z. z ++ bytes) e, h.1, h.2 ∙ s)
alike_holds old mid new kind bytes put.Dropped e p l s h = (h.0, h.1 ∙ e, subst (λ z. LacksRoom frame_room old (length (z ++ bytes))) e (lacks_alike frame_room (length (mid.bytes ++ bytes)) old mid e p l h.2), h.3 ∙ s)
alike_holds old mid new kind bytes put.Closed e p l s h = (h.0, h.1, subst (λ z. LacksRoom all_room old (length (z ++ bytes))) e (lacks_alike all_room (length (mid.bytes ++ bytes)) old mid e p l h.2))

abbrev is_response : Message → Type 0
is_response message.Response = Unit {0}
is_response message.Frame = ⊥

-- a connection that isn't closed and doesn't take a message drains, and the message is a frame
is_frame : (c : Condition) (kind : Message) → takes c kind ≡ false → (c ≡ condition.Closed → ⊥) → kind ≡ message.Frame
is_frame condition.Open kind q n = absurd (false≢true (sym q))
is_frame condition.Draining message.Response q n = absurd (false≢true (sym q))
is_frame condition.Draining message.Frame q n = refl
is_frame condition.Closed kind q n = absurd (n refl)

module _ {W : Type 0} (T : W → List ℕ → Option ℕ → W → Type 0) where
  -- nothing is asked of the stream
  unasked : (a : W) (offer : Option (List ℕ)) (all waits : List ℕ) → None ≡ offer → waits ≡ all → Passes T a a offer all waits
  unasked a offer all waits o e = subst (λ z. Passes T a a z all waits) o (record { taken = 0; asks = (refl, refl); rest = e })

  -- a part of an offer is taken
  asked : (a b : W) (offer : Option (List ℕ)) (bytes all waits : List ℕ) (n : ℕ) → Some bytes ≡ offer → T a bytes (Some n) b → take n bytes ++ waits ≡ all → (p : Passes T a b offer all waits) × (p.taken ≡ n)
  asked a b offer bytes all waits n o t e = subst (λ z. (p : Passes T a b z all waits) × (p.taken ≡ n)) o (record { taken = n; asks = t; rest = e }, refl)

  -- the connection was closed before
  pub closed_puts : (a : W) (old : Waiting) (kind : Message) (bytes : List ℕ) → IsClosed old → old.bytes ≡ [] → Puts T a a old kind bytes old put.Closed
  closed_puts a old kind bytes c e = ((c, e), inl (c, refl))

  -- a frame that isn't taken
  pub dropped_puts : (a : W) (old : Waiting) (kind : Message) (bytes : List ℕ) → takes old.condition kind ≡ false → ¬ IsClosed old → Puts T a a old kind bytes old put.Dropped
  dropped_puts a old kind bytes t c = (unasked a (offered old kind bytes) old.bytes old.bytes (offers_none old kind bytes t) refl, (is_frame old.condition kind t c, inl t), refl)

  -- a message behind others
  pub behind_puts : (a : W) (old : Waiting) (kind : Message) (bytes : List ℕ) (new : Waiting) (r : Put) → old.bytes ≢ [] → Holds old kind bytes new r → Puts T a a old kind bytes new r
  behind_puts a old kind bytes new put.Sent e h = absurd h
  behind_puts a old kind bytes new put.Kept e h = (unasked a (offered old kind bytes) (old.bytes ++ bytes) new.bytes (behind (takes old.condition kind) old.bytes bytes e) h.0, inl h.1, h.2)
  behind_puts a old kind bytes new put.Dropped e h = (unasked a (offered old kind bytes) old.bytes new.bytes (behind (takes old.condition kind) old.bytes bytes e) h.1, (h.0, inr h.2), h.3)
  behind_puts a old kind bytes new put.Closed e h = (
    h.1,
    inr (inr (record {
      lost = old.bytes ++ bytes;
      passes = unasked a (offered old kind bytes) (old.bytes ++ bytes) (old.bytes ++ bytes) (behind (takes old.condition kind) old.bytes bytes e) refl;
      whole = inl h.0;
      lacks = h.2;
    })),
  )

  -- the stream is broken
  pub broken_puts : (a b : W) (old : Waiting) (kind : Message) (bytes : List ℕ) (new : Waiting) → takes old.condition kind ≡ true → old.bytes ≡ [] → T a bytes None b → IsShut new → Puts T a b old kind bytes new put.Closed
  broken_puts a b old kind bytes new t e broken shut = (shut, inr (inl (subst (λ z. Breaks T a b z) (offers_all old kind bytes t e) broken)))

  -- a message is taken whole
  pub sent_puts : (a b : W) (old : Waiting) (kind : Message) (bytes : List ℕ) (new : Waiting) (n : ℕ) → takes old.condition kind ≡ true → old.bytes ≡ [] → new.bytes ≡ old.bytes → IsAlike old new → T a bytes (Some n) b → length bytes ≤ n → Puts T a b old kind bytes new put.Sent
  sent_puts a b old kind bytes new n t o e s tried all =
      let w : new.bytes ≡ [] = e ∙ o in (
        (asked a b (offered old kind bytes) bytes (old.bytes ++ bytes) new.bytes n (offers_all old kind bytes t o) tried
            (ap (λ z. take n bytes ++ z) w ∙ append-nil (take n bytes) ∙ take_all n bytes all ∙ ap (λ z. z ++ bytes) (sym o))).0,
        w,
        s,
      )

  -- the same with what waits, where none of it is taken
  unmoved : (n : ℕ) (bytes all waits : List ℕ) → n ≡ 0 → waits ≡ all → take n bytes ++ waits ≡ all
  unmoved n bytes all waits z e = subst (λ i. take i bytes ++ waits ≡ all) (sym z) e

  -- none of a message is taken
  pub none_puts : (a b : W) (old mid : Waiting) (kind : Message) (bytes : List ℕ) (new : Waiting) (n : ℕ) (r : Put) → takes old.condition kind ≡ true → old.bytes ≡ [] → n ≡ 0
      → mid.bytes ≡ old.bytes → mid.spare ≡ old.spare → mid.lent ≡ old.lent → IsAlike old mid → T a bytes (Some n) b → Holds mid kind bytes new r → Puts T a b old kind bytes new r
  none_puts a b old mid kind bytes new n r t o z e p l s tried h = held r (alike_holds old mid new kind bytes r e p l s h)
    where
      offer : Some bytes ≡ offered old kind bytes
      offer = offers_all old kind bytes t o

      held : (q : Put) → Holds old kind bytes new q → Puts T a b old kind bytes new q
      held put.Sent k = absurd k
      held put.Kept k = ((asked a b (offered old kind bytes) bytes (old.bytes ++ bytes) new.bytes n offer tried (unmoved n bytes (old.bytes ++ bytes) new.bytes z k.0)).0, inl k.1, k.2)
      held put.Dropped k = ((asked a b (offered old kind bytes) bytes old.bytes new.bytes n offer tried (unmoved n bytes old.bytes new.bytes z k.1)).0, (k.0, inr k.2), k.3)
      held put.Closed k = (
        k.1,
        inr (inr (record {
          lost = old.bytes ++ bytes;
          passes = (asked a b (offered old kind bytes) bytes (old.bytes ++ bytes) (old.bytes ++ bytes) n offer tried (unmoved n bytes (old.bytes ++ bytes) (old.bytes ++ bytes) z refl)).0;
          whole = inl k.0;
          lacks = k.2;
        })),
      )

  -- a part of a message is taken, and the rest has the room of a response
  pub rest_puts : (a b : W) (old mid : Waiting) (kind : Message) (bytes rest : List ℕ) (new : Waiting) (n : ℕ) (r : Put) → takes old.condition kind ≡ true → old.bytes ≡ [] → n ≢ 0
      → mid.bytes ≡ old.bytes → mid.spare ≡ old.spare → mid.lent ≡ old.lent → IsAlike old mid → rest ≡ drop n bytes → T a bytes (Some n) b → Holds mid message.Response rest new r → Puts T a b old kind bytes new r
  rest_puts a b old mid kind bytes rest new n r t o z e p l s d tried h = held r (alike_holds old mid new message.Response rest r e p l s h)
    where
      some : 0 < n
      some = omega (arith, z)

      offer : Some bytes ≡ offered old kind bytes
      offer = offers_all old kind bytes t o

      whole : (waits : List ℕ) → waits ≡ old.bytes ++ rest → take n bytes ++ waits ≡ old.bytes ++ bytes
      whole waits w = ap (λ q. take n bytes ++ q) (w ∙ ap (λ q. q ++ rest) o ∙ d) ∙ take-append-drop n bytes ∙ ap (λ q. q ++ bytes) (sym o)

      held : (q : Put) → Holds old message.Response rest new q → Puts T a b old kind bytes new q
      held put.Sent k = absurd k
      held put.Kept k =
          let passes = asked a b (offered old kind bytes) bytes (old.bytes ++ bytes) new.bytes n offer tried (whole new.bytes k.0) in
          (passes.0, inr (subst (λ i. 0 < i) (sym passes.1) some), k.2)
      held put.Dropped k = absurd (subst is_response k.0 tt)
      held put.Closed k =
          let passes = asked a b (offered old kind bytes) bytes (old.bytes ++ bytes) (old.bytes ++ rest) n offer tried (whole (old.bytes ++ rest) refl) in
          (k.1, inr (inr (record { lost = old.bytes ++ rest; passes = passes.0; whole = inr (subst (λ i. 0 < i) (sym passes.1) some); lacks = k.2 })))

  pub nothing_flushed : (a : W) (old : Waiting) (now : ℕ) → old.bytes ≡ [] → Flushed T a a old old now 0
  nothing_flushed a old now e = record {
    passes = record { taken = 0; asks = subst (λ z. Asks T a a z 0) (ap flushed (sym e)) (refl, refl); rest = subst (λ z. first_of z 0 ++ old.bytes ≡ old.bytes) (ap flushed (sym e)) refl };
    count = sym (ap length e);
    alike = refl;
    progress = λ (some : 0 < 0). absurd (omega (arith, some));
    none = λ same. refl;
  }

  pub is_flushed : (a b : W) (old new : Waiting) (now n left : ℕ) → old.bytes ≢ [] → T a old.bytes (Some n) b → new.bytes ≡ drop n old.bytes → left ≡ length new.bytes → IsAlike old new
      → (0 < n → new.since ≡ now) → (n ≡ 0 → new.since ≡ old.since) → Flushed T a b old new now left
  is_flushed a b old new now n left e tried d c s progress none =
      let passes = asked a b (flushed old.bytes) old.bytes old.bytes new.bytes n (flushes old.bytes e) tried (ap (λ z. take n old.bytes ++ z) d ∙ take-append-drop n old.bytes) in
      record {
        passes = passes.0;
        count = c;
        alike = s;
        progress = λ some. progress (subst (λ i. 0 < i) passes.1 some);
        none = λ same. none (sym passes.1 ∙ same);
      }

  pub broken_flush : (a b : W) (old new : Waiting) → old.bytes ≢ [] → T a old.bytes None b → IsShut new → IsShut new × Ends T a b old
  broken_flush a b old new e broken shut = (shut, inr (subst (λ z. Breaks T a b z) (flushes old.bytes e) broken))
