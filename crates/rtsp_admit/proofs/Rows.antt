-- What stands under an admission while it is under way.
use Rattle.std.proofs.Common.{◌≡◌, ◌≢◌, ◌⊎◌, ◌==◌, ℕ, Bool, true, false, ◌&&◌, not, cond, List, [], ◌∷◌, ◌++◌, length, refl, sym, ◌∙◌, ap, subst, arith, inl, inr, ⊎_elim}
use Rattle.std.specs.Prelude.{Option, Some, None, is_some}
use Rattle.std.proofs.lemmas.Bool.{eqb-false, both_ways}
use Rattle.std.proofs.lemmas.Bool.Decides.{nat_tests}
use Rattle.std.specs.FinMap.{get}
use Rattle.rtsp_record.specs.declared.holdings.Thing.{Thing}
use Rattle.rtsp_record.specs.declared.holdings.Thing.TheVariants.{Pair, Port, Chan, Rate}
use Rattle.rtsp_record.specs.declared.holdings.Admission.{Admission}
use Rattle.rtsp_record.specs.declared.changes.Record.{Record}
use Rattle.rtsp_record.specs.declared.changes.Record.TheVariants.{Open, Close, Hold, Free, Add, Drop}
use Rattle.rtsp_record.specs.declared.changes.Entry.{Entry}
use Rattle.rtsp_record.specs.Records.{session_of, holds, frees}
use Rattle.rtsp_record.specs.Books.{Session, Book, bare, holding, freed, streaming, under, with_under, effect, after, after_all, records_of, book_of}
use Rattle.rtsp_record.specs.Rules.{as_rate, is_this, is_held, IsAddress}
use Rattle.rtsp_record.specs.Journals.{is_add_of, HasNoAdd}
use Rattle.rtsp_book.specs.Sessions.{has_stream_under}
use Rattle.rtsp_book.specs.Made.{taking_back}
use Rattle.rtsp_record.proofs.Tables.{at_key, get-set}
use Rattle.rtsp_record.proofs.Rows.{under-own, at_under}
use Rattle.rtsp_record.proofs.Sound.{under_opened, same_nat}
use Rattle.rtsp_record.proofs.Strands.{row_after}
use Rattle.rtsp_book.proofs.Runs.{row_after-append}
use Rattle.rtsp_undo.proofs.Journals.{book_more}
use Rattle.rtsp_lock.specs.Numbers.{is_use_of, uses}

-- at most these two things, a rate and an address, and no stream
pub record Upto (x y : Option Thing) (d : Admission) : Type 0 where
  pub rate : (as_rate d.rate ≡ None) ⊎ (as_rate d.rate ≡ x)
  pub address : (d.address ≡ None) ⊎ (d.address ≡ y)
  pub stream : d.stream ≡ None

-- so it is under the admission, where the session lives
abbrev pub Within : ℕ → Option Thing → Option Thing → Option Session → Type 0
Within a x y None = Unit {0}
Within a x y (Some f) = Upto x y (under f a)

upto_bare : (x y : Option Thing) → Upto x y bare
upto_bare x y = record { rate = inl refl; address = inl refl; stream = refl }

upto_freed : (x y : Option Thing) (t : Thing) (d : Admission) → Upto x y d → Upto x y (freed t d)
upto_freed x y (Rate n) d h = record { rate = inl refl; address = h.address; stream = h.stream }
upto_freed x y t d h = record { rate = h.rate; address = inl refl; stream = h.stream }

upto_dropped : (x y : Option Thing) (d : Admission) → Upto x y d → Upto x y (streaming None d)
upto_dropped x y d h = record { rate = h.rate; address = h.address; stream = refl }

-- where nothing stands, no more than these two things does
pub within_more : (a : ℕ) (x y : Option Thing) (o : Option Session) → Within a None None o → Within a x y o
within_more a x y None h = tt
within_more a x y (Some f) h = record { rate = ⊎_elim (λ e. inl e) (λ e. inl e) h.rate; address = ⊎_elim (λ e. inl e) (λ e. inl e) h.address; stream = h.stream }

-- a record that is no Hold or Add of the admission leaves no more under it
pub quiet_row : (a : ℕ) (x y : Option Thing) (r : Record) (o : Option Session) → is_use_of a r ≡ false → Within a x y o → Within a x y (effect r o)
quiet_row a x y (Open l) o off h = subst (Upto x y) (sym (under_opened l.id l.conn l.expires a)) (upto_bare x y)
quiet_row a x y (Close l) o off h = tt
quiet_row a x y (Hold k) (Some f) off h = at_under f k.admission (holding k.thing (under f k.admission)) a (Upto x y) (λ e. absurd (eqb-false k.admission a off (sym e))) h
quiet_row a x y (Free k) (Some f) off h =
    at_under f k.admission (freed k.thing (under f k.admission)) a (Upto x y) (λ e. upto_freed x y k.thing (under f k.admission) (subst (λ c. Upto x y (under f c)) e h)) h
quiet_row a x y (Add d) (Some f) off h = at_under f d.admission (streaming (Some d.stream) (under f d.admission)) a (Upto x y) (λ e. absurd (eqb-false d.admission a off (sym e))) h
quiet_row a x y (Drop d) (Some f) off h =
    at_under f d.admission (streaming None (under f d.admission)) a (Upto x y) (λ e. upto_dropped x y (under f d.admission) (subst (λ c. Upto x y (under f c)) e h)) h
quiet_row a x y r None off h = tt
quiet_row a x y r (Some f) off h = h

quiet_after : (a q : ℕ) (x y : Option Thing) (b : Book) (r : Record) → is_use_of a r ≡ false → Within a x y (get b q) → Within a x y (get (after b r) q)
quiet_after a q x y b r off h =
    let s = session_of r in
    subst (Within a x y) (sym (get-set b s q (effect r (get b s))))
    (at_key s q (λ v. Within a x y (cond v (effect r (get b s)) (get b q))) (λ _ e. quiet_row a x y r (get b s) off (subst (λ t. Within a x y (get b t)) e h)) (λ _. h))

-- how many Holds and Adds of the admission
abbrev pub count : ℕ → List Entry → ℕ
count a j = length (uses a j)

quiet_all : (a q : ℕ) (x y : Option Thing) (b : Book) (k : List Entry) → count a k ≡ 0 → Within a x y (get b q) → Within a x y (get (after_all b (records_of k)) q)
quiet_all a q x y b [] none h = h
quiet_all a q x y b (e ∷ k) none h =
    elim (is_use_of a e.change) as (λ v. is_use_of a e.change ≡ v → length (cond v (e ∷ uses a k) (uses a k)) ≡ 0 → Within a x y (get (after_all (after b e.change) (records_of k)) q)) [
      | true ↦ λ _ l. absurd (omega arith)
      | false ↦ λ off l. quiet_all a q x y (after b e.change) k l (quiet_after a q x y b e.change off h)
    ] refl none

pub no_add_of : (a : ℕ) (r : Record) → is_use_of a r ≡ false → is_add_of a r ≡ false
no_add_of a (Add d) off = off
no_add_of a r off = refl

no_adds : (a : ℕ) (k : List Entry) → count a k ≡ 0 → HasNoAdd a k
no_adds a [] none = tt
no_adds a (e ∷ k) none =
    elim (is_use_of a e.change) as (λ v. is_use_of a e.change ≡ v → length (cond v (e ∷ uses a k) (uses a k)) ≡ 0 → HasNoAdd a (e ∷ k)) [
      | true ↦ λ _ l. absurd (omega arith)
      | false ↦ λ off l. (no_add_of a e.change off, no_adds a k l)
    ] refl none

no_add-append : (a : ℕ) (j k : List Entry) → HasNoAdd a j → HasNoAdd a k → HasNoAdd a (j ++ k)
no_add-append a [] k h g = g
no_add-append a (e ∷ j) k h g = (h.0, no_add-append a j k h.1 g)

-- after this journal no stream was added under the admission, its session holds at most these two things under it, and no other session holds any
pub record Left (s a : ℕ) (x y : Option Thing) (j : List Entry) : Type 0 where
  pub others : (q : ℕ) → q ≢ s → Within a None None (get (book_of j) q)
  pub own : Within a x y (get (book_of j) s)
  pub no_add : HasNoAdd a j

-- entries without such leave no more
pub left_quiet : (s a : ℕ) (x y : Option Thing) (j k : List Entry) → count a k ≡ 0 → Left s a x y j → Left s a x y (j ++ k)
left_quiet s a x y j k none l =
    let row : (q : ℕ) (x y : Option Thing) → Within a x y (get (book_of j) q) → Within a x y (get (book_of (j ++ k)) q) =
    λ q x y h. subst (λ b. Within a x y (get b q)) (sym (book_more j k)) (quiet_all a q x y (book_of j) k none h) in
    record { others = λ q apart. row q None None (l.others q apart); own = row s x y l.own; no_add = no_add-append a j k l.no_add (no_adds a k none) }

pub holds_rate : (s a n : ℕ) (x y : Option Thing) (o : Option Session) → Within a x y o → Within a (Some (Rate n)) y (effect (holds s a (Rate n)) o)
holds_rate s a n x y None h = tt
holds_rate s a n x y (Some f) h =
    subst (Upto (Some (Rate n)) y) (sym (under-own f a (holding (Rate n) (under f a)))) (record { rate = inr refl; address = h.address; stream = h.stream })

pub holds_address : (s a : ℕ) (t : Thing) (x y : Option Thing) (o : Option Session) → IsAddress t → Within a x y o → Within a x (Some t) (effect (holds s a t) o)
holds_address s a t x y None is h = tt
holds_address s a (Rate n) x y (Some f) is h = absurd is
holds_address s a t x y (Some f) is h =
    subst (Upto x (Some t)) (sym (under-own f a (holding t (under f a)))) (record { rate = h.rate; address = inr refl; stream = h.stream })

pub frees_address : (s a : ℕ) (t : Thing) (x y : Option Thing) (o : Option Session) → IsAddress t → Within a x y o → Within a x None (effect (frees s a t) o)
frees_address s a t x y None is h = tt
frees_address s a (Rate n) x y (Some f) is h = absurd is
frees_address s a t x y (Some f) is h =
    subst (Upto x None) (sym (under-own f a (freed t (under f a)))) (record { rate = h.rate; address = inl refl; stream = h.stream })

-- What an Unwind without an Open leaves.

-- the second thing of a chain is an address
abbrev pub IsSecond : Option Thing → Type 0
IsSecond None = Unit {0}
IsSecond (Some t) = IsAddress t

-- the first is a rate
abbrev pub IsFirst : Option Thing → Type 0
IsFirst None = Unit {0}
IsFirst (Some (Rate n)) = Unit {0}
IsFirst o = ⊥

both : (v u : Bool) → v ≡ true → u ≡ false → (v && not u) ≡ true
both true false on off = refl
both v u on off = absurd cc

either_none : (o : Option Thing) → (o ≡ None) ⊎ (o ≡ None) → o ≡ None
either_none o h = ⊎_elim (λ e. e) (λ e. e) h

-- without an address, and with the rate as it was
pub record NoAddress (rs : List Record) (f : Session) (a : ℕ) (x : Option Thing) : Type 0 where
  pub session : Session
  pub ends : row_after rs (Some f) ≡ Some session
  pub upto : Upto x None (under session a)
  pub rate : (under session a).rate ≡ (under f a).rate

-- an address is given back where it is held, and where it isn't there was none
address_back : (s a : ℕ) (f : Session) (x : Option Thing) (t : Thing) → ((d : Admission) → freed t d ≡ record d { address = None }) → ((under f a).address ≡ Some t → is_held f a t ≡ true) → Upto x (Some t) (under f a) → NoAddress (taking_back s a f (Some t)) f a x
address_back s a f x t frees_it held h =
    elim (is_held f a t && not (has_stream_under f a)) as (λ v. (is_held f a t && not (has_stream_under f a)) ≡ v → NoAddress (cond v (frees s a t ∷ []) []) f a x) [
      | true ↦ λ _.
          let left : under (with_under f a (freed t (under f a))) a ≡ record (under f a) { address = None } = under-own f a (freed t (under f a)) ∙ frees_it (under f a) in
          record {
            session = with_under f a (freed t (under f a));
            ends = refl;
            upto = subst (Upto x None) (sym left) (record { rate = h.rate; address = inl refl; stream = h.stream });
            rate = ap (λ (d : Admission). d.rate) left;
          }
      | false ↦ λ off. record {
        session = f;
        ends = refl;
        upto = record {
          rate = h.rate;
          address = inl (⊎_elim (λ e. e) (λ e. absurd (both_ways _ off (both (is_held f a t) (has_stream_under f a) (held e) (ap is_some h.stream)))) h.address);
          stream = h.stream;
        };
        rate = refl;
      }
    ] refl

same_chan : (c k : ℕ) → (c == c && k == k) ≡ true
same_chan c k = grind (arith, nat_tests)

second_back : (s a : ℕ) (f : Session) (x y : Option Thing) → IsSecond y → Upto x y (under f a) → NoAddress (taking_back s a f y) f a x
second_back s a f x None is h = record { session = f; ends = refl; upto = record { rate = h.rate; address = inl (either_none _ h.address); stream = h.stream }; rate = refl }
second_back s a f x (Some (Rate n)) is h = absurd is
second_back s a f x (Some (Pair p)) is h = address_back s a f x (Pair p) (λ d. refl) (λ e. ap (is_this (Pair p)) e ∙ same_nat p) h
second_back s a f x (Some (Port p)) is h = address_back s a f x (Port p) (λ d. refl) (λ e. ap (is_this (Port p)) e ∙ same_nat p) h
second_back s a f x (Some (Chan c k)) is h = address_back s a f x (Chan c k) (λ d. refl) (λ e. ap (is_this (Chan c k)) e ∙ same_chan c k) h

first_back : (s a : ℕ) (f g : Session) (x : Option Thing) → IsFirst x → Upto x None (under g a) → (under g a).rate ≡ (under f a).rate → (under f a).stream ≡ None → Within a None None (row_after (taking_back s a f x) (Some g))
first_back s a f g None is h same stream = h
first_back s a f g (Some (Rate n)) is h same stream =
    elim (is_held f a (Rate n) && not (has_stream_under f a)) as (λ v. (is_held f a (Rate n) && not (has_stream_under f a)) ≡ v → Within a None None (row_after (cond v (frees s a (Rate n) ∷ []) []) (Some g))) [
      | true ↦ λ _. subst (Upto None None) (sym (under-own g a (freed (Rate n) (under g a)))) (record { rate = inl refl; address = h.address; stream = h.stream })
      | false ↦ λ off. record {
        rate = inl (⊎_elim (λ e. e) (λ e. absurd (both_ways _ off (both (is_held f a (Rate n)) (has_stream_under f a) (ap (is_this (Rate n)) (sym (ap as_rate same) ∙ e) ∙ same_nat n) (ap is_some stream)))) h.rate);
        address = h.address;
        stream = h.stream;
      }
    ] refl
first_back s a f g x is h same stream = absurd is

pub both_back : (s a : ℕ) (f : Session) (x y : Option Thing) → IsFirst x → IsSecond y → Upto x y (under f a) → Within a None None (row_after (taking_back s a f y ++ taking_back s a f x) (Some f))
both_back s a f x y first second h =
    let g = second_back s a f x y second h in
    subst (Within a None None) (sym (row_after-append (taking_back s a f y) (taking_back s a f x) (Some f) ∙ ap (row_after (taking_back s a f x)) g.ends))
    (first_back s a f g.session x first g.upto g.rate h.stream)
