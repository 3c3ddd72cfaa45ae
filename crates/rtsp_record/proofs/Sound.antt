-- What is true of the book of every legal journal.
use Rattle.std.proofs.Common.{◌≡◌, ◌==◌, ℕ, ◌+◌, ◌<◌, ◌≤◌, Bool, true, false, ◌&&◌, not, cond, List, [], ◌∷◌, refl, sym, ◌∙◌, ap, subst, arith}
use Rattle.std.specs.Prelude.{Option, Some, None, IsSome, is_some}
use Rattle.std.proofs.lemmas.Bool.{and_parts, or_left, or_right}
use Rattle.std.proofs.lemmas.Bool.Decides.{Decides-eqb, nat_tests}
use Rattle.std.proofs.lemmas.Option.{none-some}
use Rattle.std.specs.FinMap.{get, empty}
use Rattle.rtsp_record.specs.declared.holdings.Thing.{Thing}
use Rattle.rtsp_record.specs.declared.holdings.Thing.TheVariants.{Rate}
use Rattle.rtsp_record.specs.declared.phases.Phase.{Phase}
use Rattle.rtsp_record.specs.declared.phases.Phase.TheVariants.{Ready, Playing}
use Rattle.rtsp_record.specs.declared.streams.Stream.{Stream}
use Rattle.rtsp_record.specs.declared.holdings.Whole.{Whole}
use Rattle.rtsp_record.specs.declared.changes.Entry.{Entry}
use Rattle.rtsp_record.specs.declared.changes.Record.{Record}
use Rattle.rtsp_record.specs.declared.changes.Record.TheVariants.{Open, Close, Hold, Free, Add, Drop, Move, Bind}
use Rattle.rtsp_record.specs.declared.payloads.Holding.{Holding}
use Rattle.rtsp_record.specs.declared.payloads.Setup.{Setup}
use Rattle.rtsp_record.specs.Records.{session_of}
use Rattle.rtsp_record.specs.declared.holdings.Admission.{Admission}
use Rattle.rtsp_record.specs.Books.{Session, Book, bare, or_bare, kept, opened, holding, freed, streaming, under, with_under, effect, after, after_all, records_of, book_of}
use Rattle.rtsp_record.specs.Sums.{Measure, if_there, of_admission, of_session, amount, one_if, sessions, with_id, bindings, rate_of, rates, Spot, covers, covering, streams, clash, clashing, is_holding, admissions_holding, others_holding}
use Rattle.rtsp_record.specs.Rules.{IsReady, as_rate, IsPlaying, alike, IsAddress, InWhole, FitsRate, Own, Others, Allowed, AllAllowed, IsLegal, HeldOnce}
use Rattle.rtsp_record.proofs.Tables.{weigh, at_key, get-set, get-none, total-set, total-empty}
use Rattle.rtsp_record.specs.Sound.{SoundSession, SoundRow, Sound}
use Rattle.rtsp_record.proofs.Rows.{at_under, normal-under, total-under}
use Rattle.rtsp_record.proofs.Balance.{gain, row_balance, balance}

pub at_most_one : (t : Bool) → one_if t ≤ 1
at_most_one true = omega arith
at_most_one false = omega arith

pub one_is : (t : Bool) → t ≡ true → one_if t ≡ 1
one_is t h = ap one_if h

pub same_nat : (n : ℕ) → (n == n) ≡ true
same_nat n = grind (arith, nat_tests)

pub under_opened : (id c e a : ℕ) → under (opened id c e) a ≡ bare
under_opened id c e a = ap or_bare (get-none a)

bare_stream : (d : Admission) (v : Stream) → d ≡ bare → d.stream ≡ Some v → ⊥
bare_stream d v e h = none-some v (sym (ap (λ (d : Admission). d.stream) e) ∙ h)

bare_address : (d : Admission) (x : Thing) → d ≡ bare → d.address ≡ Some x → ⊥
bare_address d x e h = none-some x (sym (ap (λ (d : Admission). d.address) e) ∙ h)

pub alike_holding : (x : Thing) (d : Admission) → alike x (holding x d) ≡ Some x
alike_holding (Rate n) d = refl
alike_holding x d = refl

pub alike_freed : (x : Thing) (d : Admission) → alike x (freed x d) ≡ None
alike_freed (Rate n) d = refl
alike_freed x d = refl

pub holding_stream : (x : Thing) (d : Admission) → (holding x d).stream ≡ d.stream
holding_stream (Rate n) d = refl
holding_stream x d = refl

pub freed_stream : (x : Thing) (d : Admission) → (freed x d).stream ≡ d.stream
freed_stream (Rate n) d = refl
freed_stream x d = refl

-- what is held is an address of the whole
abbrev pub Proper : Whole → Admission → Type 0
Proper w d = (y : Thing) → d.address ≡ Some y → InWhole w y × IsAddress y

hold_proper : (w : Whole) (x : Thing) (d : Admission) → InWhole w x → Proper w d → Proper w (holding x d)
hold_proper w (Rate n) d h p y e = p y e
hold_proper w x d h p y e = let same : x ≡ y = cc in subst (λ y. InWhole w y × IsAddress y) same (h, tt)

free_proper : (w : Whole) (x : Thing) (d : Admission) → Proper w d → Proper w (freed x d)
free_proper w (Rate n) d p y e = p y e
free_proper w x d p y e = absurd (none-some y e)

pub holds_some : (x : Thing) (d : Admission) → alike x d ≡ Some x → is_holding d ≡ true
holds_some (Rate n) d h = or_left (is_some d.rate) (is_some d.address) (elim (d.rate) as (λ o. as_rate o ≡ Some (Rate n) → is_some o ≡ true) [ None ↦ λ e. absurd cc | Some m ↦ λ e. refl ] h)
holds_some x d h = or_right (is_some d.rate) (is_some d.address) (ap is_some h)

-- how many hold something, after a change under one admission
pub holding-under : (f : Session) (a : ℕ) (d : Admission) → admissions_holding (with_under f a d) + one_if (is_holding (under f a)) ≡ admissions_holding f + one_if (is_holding d)
holding-under f a d = total-under (λ e. one_if (is_holding e.1)) f a d refl

weigh_under : (a : ℕ) (o : Option Admission) → weigh (λ e. one_if (is_holding e.1)) a o ≡ one_if (is_holding (or_bare o))
weigh_under a None = refl
weigh_under a (Some d) = refl

pub holding-others : (f : Session) (a : ℕ) → others_holding f a + one_if (is_holding (under f a)) ≡ admissions_holding f
holding-others f a = omega (arith, total-set (λ e. one_if (is_holding e.1)) f.admissions a None (get f.admissions a) refl, weigh_under a (get f.admissions a))

clash_symmetric : (v u : Stream) → clash v u ≡ clash u v
clash_symmetric v u = grind (arith, nat_tests)

pub clash_itself : (v : Stream) → clash v v ≡ true
clash_itself v = or_left (v.track == v.track) (not (v.presentation == v.presentation)) (same_nat v.track)

-- what stands under an admission is part of the session's sum
pub stream_counts : (m : Measure) (f : Session) (a : ℕ) (v : Stream) → (under f a).stream ≡ Some v → m.stream v ≤ of_session m f
stream_counts m f a v there = omega (arith, total-under (λ e. of_admission m e.1) f a bare refl, ap (if_there m.stream) there)

not_both : (p : Phase) → IsReady p → IsPlaying p → ⊥
not_both (Ready at sent) h g = absurd cc
not_both p h g = absurd cc

-- a stream that may be added clashes with none
apart_new : (f : Session) (a : ℕ) (v u : Stream) → of_session (clashing v) f ≡ 0 → (under f a).stream ≡ Some u → one_if (clash u v) ≡ 0
apart_new f a v u none there = omega (arith, stream_counts (clashing v) f a u there, ap one_if (clash_symmetric v u))

opened_sound : (w : Whole) (id c e : ℕ) → SoundSession w (opened id c e)
opened_sound w id c e =
    record {
      normal = λ a. ap (λ o. kept (or_bare o)) (get-none a) ∙ sym (get-none a);
      based = λ a v is. absurd (bare_stream _ v (under_opened id c e a) is);
      apart = λ a v is. absurd (bare_stream _ v (under_opened id c e a) is);
      playing = λ p. absurd cc;
      few = omega (arith, total-empty (λ (e : ℕ × Admission). one_if (is_holding e.1)));
      in_whole = λ a x is. absurd (bare_address _ x (under_opened id c e a) is);
    }

-- what a change under one admission, under which no stream is then, has to leave
record Leaves (w : Whole) (f : Session) (a : ℕ) (d : Admission) : Type 0 where
  no_stream : d.stream ≡ None
  clashes : (v : Stream) → of_session (clashing v) (with_under f a d) ≤ of_session (clashing v) f
  playing : IsPlaying f.phase → 0 < of_session streams (with_under f a d)
  few : admissions_holding (with_under f a d) ≤ 16
  proper : Proper w d

without_stream_sound : (w : Whole) (f : Session) (a : ℕ) (d : Admission) → SoundSession w f → Leaves w f a d → SoundSession w (with_under f a d)
without_stream_sound w f a d ok left =
    record {
      normal = normal-under f a d ok.normal;
      based = λ b v. at_under f a d b (λ e. e.stream ≡ Some v → IsSome e.rate × IsSome e.address) (λ _ is. absurd (none-some v (sym left.no_stream ∙ is))) (ok.based b v);
      apart = λ b v. at_under f a d b (λ e. e.stream ≡ Some v → of_session (clashing v) (with_under f a d) ≤ 1) (λ _ is. absurd (none-some v (sym left.no_stream ∙ is))) (λ is. omega (arith, left.clashes v, ok.apart b v is));
      playing = left.playing;
      few = left.few;
      in_whole = λ b. at_under f a d b (Proper w) (λ _. left.proper) (ok.in_whole b);
    }

hold_sound : (w : Whole) (b : Book) (k : Holding) (f : Session) → Own (Hold k) (Some f) → Others w (Hold k) b → SoundSession w f → SoundSession w (with_under f k.admission (holding k.thing (under f k.admission)))
hold_sound w b k f h g ok =
    let d = holding k.thing (under f k.admission) in
    without_stream_sound w f k.admission d ok (record {
      no_stream = holding_stream k.thing (under f k.admission) ∙ h.no_stream;
      clashes = λ v. omega (arith, row_balance (clashing v) (Hold k) (Some f) h);
      playing = λ p. omega (arith, row_balance streams (Hold k) (Some f) h, ok.playing p);
      few = omega (arith, holding-under f k.admission d, holding-others f k.admission, h.few, at_most_one (is_holding d));
      proper = hold_proper w k.thing (under f k.admission) g.in_whole (ok.in_whole k.admission);
    })

free_sound : (w : Whole) (k : Holding) (f : Session) → Own (Free k) (Some f) → SoundSession w f → SoundSession w (with_under f k.admission (freed k.thing (under f k.admission)))
free_sound w k f h ok =
    let d = freed k.thing (under f k.admission) in
    without_stream_sound w f k.admission d ok (record {
      no_stream = freed_stream k.thing (under f k.admission) ∙ h.no_stream;
      clashes = λ v. omega (arith, row_balance (clashing v) (Free k) (Some f) h);
      playing = λ p. omega (arith, row_balance streams (Free k) (Some f) h, ok.playing p);
      few = omega (arith, holding-under f k.admission d, ok.few, one_is _ (holds_some k.thing (under f k.admission) h.held), at_most_one (is_holding d));
      proper = free_proper w k.thing (under f k.admission) (ok.in_whole k.admission);
    })

drop_sound : (w : Whole) (k : Setup) (f : Session) → Own (Drop k) (Some f) → SoundSession w f → SoundSession w (with_under f k.admission (streaming None (under f k.admission)))
drop_sound w k f h ok =
    let d = streaming None (under f k.admission) in
    without_stream_sound w f k.admission d ok (record {
      no_stream = refl;
      clashes = λ v. omega (arith, row_balance (clashing v) (Drop k) (Some f) h);
      playing = λ p. absurd (not_both f.phase h.ready p);
      few = omega (arith, holding-under f k.admission d, ok.few);
      proper = ok.in_whole k.admission;
    })

add_sound : (w : Whole) (k : Setup) (f : Session) → Own (Add k) (Some f) → SoundSession w f → SoundSession w (with_under f k.admission (streaming (Some k.stream) (under f k.admission)))
add_sound w k f h ok =
    let d = streaming (Some k.stream) (under f k.admission) in
    let g = with_under f k.admission d in
    let own : of_session (clashing k.stream) g ≤ 1 = omega (arith, row_balance (clashing k.stream) (Add k) (Some f) h, h.no_clash, at_most_one (clash k.stream k.stream)) in
    record {
      normal = normal-under f k.admission d ok.normal;
      based = λ b u. at_under f k.admission d b (λ e. e.stream ≡ Some u → IsSome e.rate × IsSome e.address) (λ _ is. (h.rate, h.address)) (ok.based b u);
      apart = λ b u. at_under f k.admission d b (λ e. e.stream ≡ Some u → of_session (clashing u) g ≤ 1)
          (λ _ is. let same : k.stream ≡ u = cc in subst (λ u. of_session (clashing u) g ≤ 1) same own)
          (λ is. omega (arith, row_balance (clashing u) (Add k) (Some f) h, ok.apart b u is, apart_new f b k.stream u h.no_clash is));
      playing = λ p. omega (arith, row_balance streams (Add k) (Some f) h);
      few = omega (arith, holding-under f k.admission d, ok.few);
      in_whole = λ b. at_under f k.admission d b (Proper w) (λ _. ok.in_whole k.admission) (ok.in_whole b);
    }

-- phase, expiry and binding touch no admission
same_admissions_sound : (w : Whole) (f : Session) (p : Phase) (e : ℕ) (k : Option (ℕ × ℕ)) → let g : Session = record f { phase = p; expires = e; binding = k } in
    SoundSession w f → ((v : Stream) → of_session (clashing v) g ≤ of_session (clashing v) f) → (IsPlaying p → 0 < of_session streams g) → SoundSession w g
same_admissions_sound w f p e k ok less plays =
    record { normal = ok.normal; based = ok.based; apart = λ a v is. omega (arith, less v, ok.apart a v is); playing = plays; few = ok.few; in_whole = ok.in_whole }

-- the two of a payload ask for different things, so what is held or set up has a lemma for each; the rest is one clause
pub row_sound : (w : Whole) (b : Book) (r : Record) (o : Option Session) → Own r o → Others w r b → SoundRow w o → SoundRow w (effect r o)
row_sound w b (Open k) o h g ok = opened_sound w k.id k.conn k.expires
row_sound w b (Close k) o h g ok = tt
row_sound w b r None h g ok = absurd h
row_sound w b (Hold k) (Some f) h g ok = hold_sound w b k f h g ok
row_sound w b (Free k) (Some f) h g ok = free_sound w k f h ok
row_sound w b (Add k) (Some f) h g ok = add_sound w k f h ok
row_sound w b (Drop k) (Some f) h g ok = drop_sound w k f h ok
row_sound w b (Move k) (Some f) h g ok =
    same_admissions_sound w f k.to f.expires f.binding ok (λ v. omega (arith, row_balance (clashing v) (Move k) (Some f) h)) (λ is. omega (arith, row_balance streams (Move k) (Some f) h, h.stream is))
row_sound w b r (Some f) h g ok =
    same_admissions_sound w f f.phase _ _ ok (λ v. omega (arith, row_balance (clashing v) r (Some f) h)) (λ is. omega (arith, row_balance streams r (Some f) h, ok.playing is))

-- one more where there was none, or none more
pub room_if : (t : Bool) (n : ℕ) → (t ≡ true → n ≡ 0) → n ≤ 1 → n + one_if t ≤ 1
room_if true n none le = omega (arith, none refl)
room_if false n none le = omega (arith, le)

pub room_ids : (w : Whole) (b : Book) (r : Record) (i : ℕ) → Others w r b → amount (with_id i) b ≤ 1 → amount (with_id i) b + gain (with_id i) r ≤ 1
room_ids w b (Open k) i g le = omega (arith, room_if (k.id == i) (amount (with_id i) b) (λ same. subst (λ k. amount (with_id k) b ≡ 0) ((Decides-eqb k.id i).0 same) g.id_free) le)
room_ids w b r i g le = omega (arith, le)

pub room_few : (w : Whole) (b : Book) (r : Record) → Others w r b → amount sessions b ≤ w.sessions → amount sessions b + gain sessions r ≤ w.sessions
room_few w b (Open k) g le = omega (arith, g.few)
room_few w b r g le = omega (arith, le)

pub room_bound : (w : Whole) (b : Book) (r : Record) (c i : ℕ) → Others w r b → amount (bindings c i) b ≤ 1 → amount (bindings c i) b + gain (bindings c i) r ≤ 1
room_bound w b (Bind k) c i g le = room_if (k.conn == c && k.number == i) (amount (bindings c i) b) (λ same. let parts = and_parts (k.conn == c) (k.number == i) same in let there : amount (bindings k.conn k.number) b ≡ 0 = g in (λ t. amount (bindings (sym ((Decides-eqb k.conn c).0 parts.0) t) (sym ((Decides-eqb k.number i).0 parts.1) t)) b) ∙ there) le
room_bound w b r c i g le = omega (arith, le)

pub room_once : (w : Whole) (b : Book) (r : Record) (q : Spot) → Others w r b → amount (covering q) b ≤ 1 → amount (covering q) b + gain (covering q) r ≤ 1
room_once w b (Hold k) q g le = room_if (covers q k.thing) (amount (covering q) b) (g.free q) le
room_once w b r q g le = omega (arith, le)

fitting_rate : (w : Whole) (b : Book) (x : Thing) → FitsRate w b x → amount rates b ≤ w.uplink → amount rates b + rate_of x ≤ w.uplink
fitting_rate w b (Rate n) fits le = fits
fitting_rate w b x fits le = omega (arith, le)

pub room_rate : (w : Whole) (b : Book) (r : Record) → Others w r b → amount rates b ≤ w.uplink → amount rates b + gain rates r ≤ w.uplink
room_rate w b (Hold k) g le = fitting_rate w b k.thing g.rate le
room_rate w b r g le = omega (arith, le)

pub sound-after : (w : Whole) (b : Book) (r : Record) → Sound w b → Allowed w b r → Sound w (after b r)
sound-after w b r ok h =
    let s = session_of r in
    record {
      rows = λ t. subst (SoundRow w) (sym (get-set b s t (effect r (get b s)))) (at_key s t (λ v. SoundRow w (cond v (effect r (get b s)) (get b t))) (λ _ _. row_sound w b r (get b s) h.0 h.1 (ok.rows s)) (λ _. ok.rows t));
      ids = λ i. omega (arith, balance (with_id i) b r h.0, room_ids w b r i h.1 (ok.ids i));
      few = omega (arith, balance sessions b r h.0, room_few w b r h.1 ok.few);
      bound = λ c i. omega (arith, balance (bindings c i) b r h.0, room_bound w b r c i h.1 (ok.bound c i));
      once = λ q. omega (arith, balance (covering q) b r h.0, room_once w b r q h.1 (ok.once q));
      rate = omega (arith, balance rates b r h.0, room_rate w b r h.1 ok.rate);
    }

pub sound-all : (w : Whole) (b : Book) (rs : List Record) → Sound w b → AllAllowed w b rs → Sound w (after_all b rs)
sound-all w b [] ok h = ok
sound-all w b (r ∷ rs) ok h = sound-all w (after b r) rs (sound-after w b r ok h.0) h.1

pub amount-empty : (m : Measure) → amount m empty ≡ 0
amount-empty m = total-empty (λ e. of_session m e.1)

pub sound-empty : (w : Whole) → Sound w empty
sound-empty w =
    record {
      rows = λ s. subst (SoundRow w) (sym (get-none s)) tt;
      ids = λ i. omega (arith, amount-empty (with_id i));
      few = omega (arith, amount-empty sessions);
      bound = λ c i. omega (arith, amount-empty (bindings c i));
      once = λ q. omega (arith, amount-empty (covering q));
      rate = omega (arith, amount-empty rates);
    }

pub sound_of : (w : Whole) (j : List Entry) → IsLegal w j → Sound w (book_of j)
sound_of w j h = sound-all w empty (records_of j) (sound-empty w) h

pub held_once : (w : Whole) (b : Book) → Sound w b → HeldOnce w b
held_once w b ok =
    record {
      once = ok.once;
      in_whole = λ s a f x is there. let row : SoundSession w f = subst (SoundRow w) is (ok.rows s) in (row.in_whole a x there).0;
      rate = ok.rate;
    }
