-- A sound book has room: an allowed record has its place, and the sums are small.
use Rattle.std.proofs.Common.{◌≡◌, ℕ, ◌*◌, ◌<◌, ◌≤◌, ◌⊎◌, inl, inr, suc, Bool, true, false, ◌||◌, not, List, [], ◌∷◌, length, get_or, refl, sym, ◌∙◌, ap, subst, arith}
use Rattle.std.specs.Prelude.{Option, Some, None, IsSome, is_some, sum_by, count_by}
use Rattle.std.specs.FinMap.{get, entries, entries_sorted, get-entries}
use Rattle.std.proofs.lemmas.List.{get_or_default}
use Rattle.std.proofs.lemmas.List.Sums.{sum_by-cons}
use Rattle.rtsp_record.specs.declared.holdings.Admission.{Admission}
use Rattle.rtsp_record.specs.declared.holdings.Thing.{Thing}
use Rattle.rtsp_record.specs.declared.holdings.Whole.{Whole}
use Rattle.rtsp_record.specs.declared.streams.Stream.{Stream}
use Rattle.rtsp_record.specs.declared.changes.Record.{Record}
use Rattle.rtsp_record.specs.declared.changes.Record.TheVariants.{Open, Close, Hold, Add}
use Rattle.rtsp_record.specs.Records.{holds, adds, session_of}
use Rattle.rtsp_record.specs.Tables.{Table}
use Rattle.rtsp_record.specs.Books.{Session, Book, row, kept, or_bare, under, after}
use Rattle.rtsp_record.specs.Sums.{one_if, if_there, is_opening, is_holding, admissions_holding, others_holding, of_admission, of_session, sessions, returns, owed}
use Rattle.rtsp_record.specs.Rules.{Living, MayHold, MayAdd, Allowed, AllAllowed}
use Rattle.rtsp_record.specs.Sound.{SoundSession, SoundRow, Sound}
use Rattle.rtsp_record.proofs.Sound.{holding-others, sound-after}
use Rattle.rtsp_sessions.specs.Lookups.{TakesNone, TakesNoMemory}
use Rattle.rtsp_sessions.specs.Plain.{InOrder, table_of, RoomUnder, RoomFor, FitsIn, AllFit, is_open}
use Rattle.rtsp_sessions.proofs.SortedRows.{find_there}

-- one part of a row that is there and sound is a rate or an address
part : (r : Option ℕ) (x : Option Thing) (v : Option Stream) (d : Admission) → row r x v ≡ Some d → ((u : Stream) → v ≡ Some u → IsSome r × IsSome x) → (is_some r || is_some x) ≡ true
part None None None d h g = absurd cc
part None None (Some u) d h g = let bad = (g u refl).0 in absurd cc
part r x v d h g = refl

holds_something : (w : Whole) (f : Session) (a : ℕ) (d : Admission) → SoundSession w f → get f.admissions a ≡ Some d → is_holding d ≡ true
holds_something w f a d ok is =
    let own : under f a ≡ d = ap or_bare is in
    part d.rate d.address d.stream d (ap kept (sym own) ∙ ok.normal a ∙ is)
    (λ u there. subst (λ (d : Admission). IsSome d.rate × IsSome d.address) own (ok.based a u (ap (λ (d : Admission). d.stream) own ∙ there)))

all_pass : {X : Type 0} (p : ℕ × X → Bool) (es : List (ℕ × X)) → ((j : ℕ) (d : ℕ × X) → j < length es → p (get_or es j d) ≡ true) → length es ≤ sum_by (λ e. one_if (p e)) es
all_pass p [] h = omega arith
all_pass p (e ∷ es) h = omega (arith, sum_by-cons (λ e. one_if (p e)) e es, all_pass p es (λ j d lt. h (suc j) d (omega (arith, lt))), ap one_if (h 0 e (omega arith)))

-- a sum is no more than the number of rows times what each counts at most
sum_each : {X : Type 0} (u : ℕ × X → ℕ) (m : ℕ) (es : List (ℕ × X)) → ((j : ℕ) (d : ℕ × X) → j < length es → u (get_or es j d) ≤ m) → sum_by u es ≤ m * length es
sum_each u m [] h = omega arith
sum_each u m (e ∷ es) h = omega (arith, sum_by-cons u e es, sum_each u m es (λ j d lt. h (suc j) d (omega (arith, lt))), h 0 e (omega arith))

-- a row of a table is got by its number
got : {X : Type 0} (t : Table X) (j : ℕ) (d : ℕ × X) → j < length (entries t) → get t (get_or (entries t) j d).0 ≡ Some (get_or (entries t) j d).1
got {X} t j d lt =
    get-entries t _ ∙ find_there (get_or (entries t) j d).0 (entries t) j d (entries_sorted t) (record { within = lt; is = λ e. ap (λ (r : ℕ × X). r.0) (get_or_default (entries t) j e d lt) })

-- each row of a sound session holds something
rows_hold : (w : Whole) (f : Session) → SoundSession w f → length (entries f.admissions) ≤ admissions_holding f
rows_hold w f ok = all_pass (λ e. is_holding e.1) (entries f.admissions) (λ j d lt. holds_something w f (get_or (entries f.admissions) j d).0 (get_or (entries f.admissions) j d).1 ok (got f.admissions j d lt))

room_to_hold : (w : Whole) (f : Session) (a : ℕ) → SoundSession w f → others_holding f a < 16 → RoomUnder f a
room_to_hold w f a ok few =
    elim (get f.admissions a) as (λ o. get f.admissions a ≡ o → IsSome o ⊎ (length (entries f.admissions) < 16)) [
      | Some d ↦ λ _. inl refl
      | None ↦ λ is. inr (omega (arith, few, rows_hold w f ok, holding-others f a, ap (λ o. one_if (is_holding (or_bare o))) is))
    ] refl

room_to_add : (f : Session) (a : ℕ) → IsSome (under f a).rate → RoomUnder f a
room_to_add f a rate =
    elim (get f.admissions a) as (λ o. IsSome (or_bare o).rate → IsSome o ⊎ (length (entries f.admissions) < 16)) [
      | Some d ↦ λ _. inl refl
      | None ↦ λ bad. absurd cc
    ] rate

lives : (P : Session → Type 0) (o : Option Session) → Living o P → Living o (λ f. Unit {0})
lives P None h = absurd h
lives P (Some f) h = tt

hold_fits : (w : Whole) (s a : ℕ) (x : Thing) (o : Option Session) → SoundRow w o → Living o (λ f. MayHold f a x) → Living o (RoomFor (holds s a x))
hold_fits w s a x None ok h = absurd h
hold_fits w s a x (Some f) ok h = room_to_hold w f a ok h.few

add_fits : (s a : ℕ) (v : Stream) (o : Option Session) → Living o (λ f. MayAdd f a v) → Living o (RoomFor (adds s a v))
add_fits s a v None h = absurd h
add_fits s a v (Some f) h = room_to_add f a h.rate

fits : (w : Whole) (b : Book) (r : Record) → Sound w b → Allowed w b r → FitsIn b r
fits w b (Open k) ok h = h.0
fits w b (Close k) ok h = subst IsSome (sym h.0) refl
fits w b (Hold k) ok h = hold_fits w k.session k.admission k.thing (get b k.session) (ok.rows k.session) h.0
fits w b (Add k) ok h = add_fits k.session k.admission k.stream (get b k.session) h.0
fits w b r ok h = lives _ (get b (session_of r)) h.0

pub all_fit : (w : Whole) (b : Book) (rs : List Record) → Sound w b → AllAllowed w b rs → AllFit b rs
all_fit w b [] ok h = tt
all_fit w b (r ∷ rs) ok h = (fits w b r ok h.0, all_fit w (after b r) rs (sound-after w b r ok h.0) h.1)

not_open : (r : Record) → TakesNone r → one_if (is_open r) ≡ 0
not_open (Open k) h = absurd h
not_open r h = refl

pub none_opens : (rs : List Record) → TakesNoMemory rs → count_by is_open rs ≡ 0
none_opens [] h = refl
none_opens (r ∷ rs) h = omega (arith, sum_by-cons (λ r. one_if (is_open r)) r rs, none_opens rs h.1, not_open r h.0)

each_lives : (es : List (ℕ × Session)) → length es ≤ sum_by (λ e. of_session sessions e.1) es
each_lives [] = omega arith
each_lives (e ∷ es) = omega (arith, sum_by-cons (λ (e : ℕ × Session). of_session sessions e.1) e es, each_lives es)

-- no more rows than sessions may live
pub few_rows : (w : Whole) (b : Book) → Sound w b → length (entries b) ≤ w.sessions
few_rows w b ok = omega (arith, each_lives (entries b), ok.few)

at_most : {X : Type 0} (o : Option X) → if_there (λ (x : X). 1) o ≤ 1
at_most None = omega arith
at_most (Some x) = omega arith

of_held : (d : Admission) → of_admission returns d ≤ 3
of_held d = omega (arith, at_most d.rate, at_most d.address, at_most d.stream)

owed_of : (w : Whole) (f : Session) → SoundSession w f → of_session returns f ≤ 51
owed_of w f ok =
    omega (arith, at_most_one_not (is_opening f.phase), at_most f.binding, sum_each (λ (e : ℕ × Admission). of_admission returns e.1) 3 (entries f.admissions) (λ j d lt. of_held (get_or (entries f.admissions) j d).1), rows_hold w f ok, ok.few)
  where
    at_most_one_not : (t : Bool) → one_if (not t) ≤ 1
    at_most_one_not true = omega arith
    at_most_one_not false = omega arith

pub owed_within : (w : Whole) (b : Book) → Sound w b → owed b ≤ 51 * w.sessions
owed_within w b ok =
    omega (arith, sum_each (λ (e : ℕ × Session). of_session returns e.1) 51 (entries b) (λ j d lt. owed_of w (get_or (entries b) j d).1 (subst (SoundRow w) (got b j d lt) (ok.rows (get_or (entries b) j d).0))), few_rows w b ok)

pub owed_few : (w : Whole) (es : List (ℕ × Session)) → InOrder es → Sound w (table_of es) → owed (table_of es) ≤ 51 * w.sessions
owed_few w es h ok = owed_within w (table_of es) ok
