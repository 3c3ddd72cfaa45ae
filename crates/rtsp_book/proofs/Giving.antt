-- The steps that give back never raise entries and owed returns together, and record at most 64.
use Rattle.std.proofs.Common.{◌≡◌, ℕ, ◌+◌, ◌*◌, ◌≤◌, true, false, T, ◌&&◌, ◌||◌, not, cond, List, [], ◌∷◌, ◌++◌, length, refl, sym, ◌∙◌, ap, subst, arith}
use Rattle.std.specs.Prelude.{Option, Some, None, IsSome, is_some, nat_lt, sum_by}
use Rattle.std.proofs.lemmas.List.Sums.{sum_by-cons}
use Rattle.std.proofs.lemmas.Option.{none-some}
use Rattle.std.specs.Ordering.{nat_cmp}
use Rattle.std.specs.FinMap.{get, find, entries, entries_sorted, is_sorted, get-entries}
use Rattle.rtsp_record.specs.declared.holdings.Thing.{Thing}
use Rattle.rtsp_record.specs.declared.streams.Stream.{Stream}
use Rattle.rtsp_record.specs.declared.holdings.Whole.{Whole}
use Rattle.rtsp_record.specs.declared.changes.Record.{Record}
use Rattle.rtsp_book.specs.declared.steps.Chain.{Chain}
use Rattle.rtsp_book.specs.declared.steps.Step.{Step}
use Rattle.rtsp_book.specs.declared.steps.Step.TheVariants.{Return, Unwind, DropTrack, End, Expire, Hangup}
use Rattle.rtsp_record.specs.Records.{frees, session_of}
use Rattle.rtsp_record.specs.declared.holdings.Admission.{Admission}
use Rattle.rtsp_record.specs.Books.{Session, Book, or_bare, under, effect, after, after_all, book_of}
use Rattle.rtsp_record.specs.Sums.{if_there, of_admission, of_session, one_if, is_opening, returns, is_holding, other_tracks}
use Rattle.rtsp_record.specs.Rules.{Own, AllAllowed}
use Rattle.rtsp_record.specs.Rules.{is_held}
use Rattle.rtsp_sessions.specs.Searches.{first_with, is_of_track, is_expired, is_channelled, is_on}
use Rattle.rtsp_book.specs.Sessions.{has_stream_under}
use Rattle.rtsp_book.specs.Returns.{unbinding, ending}
use Rattle.rtsp_book.specs.Made.{taking_back, unwinding, giving_back_found, dropping_track, ending_found, hanging_up, of_living, made}
use Rattle.rtsp_book.specs.Replies.{refusals, is_growing}
use Rattle.rtsp_book.specs.Laws.{GivesBack, GivingBack}
use Rattle.rtsp_record.proofs.Tables.{own, at_key}
use Rattle.rtsp_record.proofs.Balance.{row_balance, row_sum}
use Rattle.rtsp_record.specs.Sound.{SoundSession, SoundRow, Sound}
use Rattle.rtsp_record.proofs.Sound.{sound_of, at_most_one}
use Rattle.rtsp_record.proofs.Trims.{AllFine}
use Rattle.rtsp_sessions.proofs.FirstRows.{sorted_parts, below_none}
use Rattle.rtsp_book.proofs.Runs.{Giving, lone_session, giving_lone, row_at, settles, fine-append, owed_given}
use Rattle.rtsp_book.proofs.Ending.{giving_under, giving_unbinding, giving_ending}
use Rattle.rtsp_book.proofs.Granted.{accepted, made_granted}

-- what a session owes falls by one with each record that gives back
row_given : (w : Whole) (s : ℕ) (b : Book) (rs : List Record) → AllFine (Giving s) rs → AllAllowed w b rs → length rs + row_sum returns s (get (after_all b rs) s) ≡ row_sum returns s (get b s)
row_given w s b [] g h = omega arith
row_given w s b (r ∷ rs) g h =
    omega (arith, row_given w s (after b r) rs g.1 h.1, one_given r g.0 h.0.0)
  where
    one_given : (r : Record) → Giving s r → Own r (get b (session_of r)) → row_sum returns s (get (after b r) s) + 1 ≡ row_sum returns s (get b s)
    one_given r g h =
        let same = lone_session s r (giving_lone s r g) in
        let own : Own r (get b s) = subst (λ q. Own r (get b q)) same h in
        omega (arith, row_balance returns r (get b s) own, settles s r g, ap (λ q. row_sum returns q (effect r (get b s))) same, ap (λ q. row_sum returns q (get b s)) same, ap (row_sum returns s) (row_at s b r (giving_lone s r g)))

sums_le : {X : Type 0} (v u : ℕ × X → ℕ) (es : List (ℕ × X)) → T (is_sorted nat_cmp es) → ((k : ℕ) (x : X) → find nat_cmp k es ≡ Some x → v (k, x) ≤ u (k, x)) → sum_by v es ≤ sum_by u es
sums_le v u [] sorted le = omega arith
sums_le v u (e ∷ es) sorted le =
    let parts = sorted_parts e es sorted in
    omega (
      arith,
      sum_by-cons v e es,
      sum_by-cons u e es,
      le e.0 e.1 (ap (λ t. cond t (Some e.1) (find nat_cmp e.0 es)) (own e.0)),
      sums_le v u es parts.1 (λ k x there. le k x (at_key e.0 k (λ t. cond t (Some e.1) (find nat_cmp k es) ≡ Some x) (λ _ same. absurd (none-some x (sym (below_none e.0 es parts.0) ∙ sym (ap (λ k. find nat_cmp k es) same) ∙ there))) (λ _. there))),
    )

if_there_one : {X : Type 0} (o : Option X) → if_there (λ _. 1) o ≡ one_if (is_some o)
if_there_one None = refl
if_there_one (Some x) = refl

no_stream_bare : (r : Option ℕ) (x : Option Thing) (v : Option Stream) → ((u : Stream) → v ≡ Some u → IsSome r × IsSome x) → one_if (is_some r) + one_if (is_some x) + one_if (is_some v) ≤ 3 * one_if (is_some r || is_some x)
no_stream_bare None None None h = omega arith
no_stream_bare None None (Some u) h = absurd (cc (h u refl).0)
no_stream_bare None (Some x) None h = omega arith
no_stream_bare None (Some x) (Some u) h = omega arith
no_stream_bare (Some r) None None h = omega arith
no_stream_bare (Some r) None (Some u) h = omega arith
no_stream_bare (Some r) (Some x) None h = omega arith
no_stream_bare (Some r) (Some x) (Some u) h = omega arith

three : (es : List (ℕ × Admission)) → sum_by (λ e. 3 * one_if (is_holding e.1)) es ≡ 3 * sum_by (λ e. one_if (is_holding e.1)) es
three [] = refl
three (e ∷ es) = omega (arith, three es, sum_by-cons (λ e. 3 * one_if (is_holding e.1)) e es, sum_by-cons (λ e. one_if (is_holding e.1)) e es)

row_short : (w : Whole) (f : Session) → SoundSession w f → of_session returns f ≤ 51
row_short w f ok =
    omega (
      arith,
      sums_le (λ e. of_admission returns e.1) (λ e. 3 * one_if (is_holding e.1)) (entries f.admissions) (entries_sorted f.admissions) (λ a d there.
          let is : under f a ≡ d = ap or_bare (get-entries f.admissions a ∙ there) in
          omega (arith, no_stream_bare d.rate d.address d.stream (λ u some. subst (λ (d : Admission). IsSome d.rate × IsSome d.address) is (ok.based a u (ap (λ (d : Admission). d.stream) is ∙ some))), if_there_one d.rate, if_there_one d.address, if_there_one d.stream)),
      three (entries f.admissions),
      ok.few,
      if_there_one f.binding,
      at_most_one (is_some f.binding),
      at_most_one (not (is_opening f.phase)),
    )

short_row : (w : Whole) (s : ℕ) (o : Option Session) → SoundRow w o → row_sum returns s o ≤ 51
short_row w s None ok = omega arith
short_row w s (Some f) ok = row_short w f ok

-- as many records as the session owes returns at most
pub gives_few : (w : Whole) (s : ℕ) (b : Book) (rs : List Record) → Sound w b → AllFine (Giving s) rs → AllAllowed w b rs → length rs ≤ 51
gives_few w s b rs ok g h = omega (arith, row_given w s b rs g h, short_row w s (get b s) (ok.rows s))

pub gives_back : (w : Whole) (s : ℕ) (b : Book) (rs : List Record) → Sound w b → AllFine (Giving s) rs → AllAllowed w b rs → GivesBack b rs
gives_back w s b rs ok g h =
    record { owed_less = owed_given w s b rs g h; short = omega (arith, gives_few w s b rs ok g h) }

-- records of one session that give back
abbrev pub Gave : List Record → Type 0
Gave rs = (s : ℕ) × AllFine (Giving s) rs

taking_gives : (s a : ℕ) (f : Session) (o : Option Thing) → AllFine (Giving s) (taking_back s a f o)
taking_gives s a f None = tt
taking_gives s a f (Some x) =
    elim (is_held f a x && not (has_stream_under f a)) as (λ t. AllFine (Giving s) (cond t (frees s a x ∷ []) [])) [ true ↦ (refl, tt) | false ↦ tt ]

pub unwinding_gives : (ch : Chain) (f : Session) → AllFine (Giving ch.session) (unwinding ch f)
unwinding_gives ch f =
    elim (ch.opened) as (λ t. AllFine (Giving ch.session) (cond t (ending ch.session f) (taking_back ch.session ch.admission f ch.second ++ taking_back ch.session ch.admission f ch.first))) [
      | true ↦ giving_ending ch.session f
      | false ↦ fine-append (Giving ch.session) (taking_back ch.session ch.admission f ch.second) (taking_back ch.session ch.admission f ch.first) (taking_gives ch.session ch.admission f ch.second) (taking_gives ch.session ch.admission f ch.first)
    ]

pub living_gives : (s : ℕ) (o : Option Session) (g : Session → List Record) → ((f : Session) → AllFine (Giving s) (g f)) → AllFine (Giving s) (of_living o g)
living_gives s None g h = tt
living_gives s (Some f) g h = h f

found_gives : (s : ℕ) (o : Option (ℕ × Admission)) → AllFine (Giving s) (giving_back_found s o)
found_gives s None = tt
found_gives s (Some e) = giving_under s e

dropping_gives : (s t : ℕ) (f : Session) → AllFine (Giving s) (dropping_track s t f)
dropping_gives s t f =
    elim (nat_lt 0 (of_session (other_tracks t) f)) as (λ v. AllFine (Giving s) (cond v (giving_back_found s (first_with (is_of_track t) (entries f.admissions))) (ending s f))) [
      | true ↦ found_gives s (first_with (is_of_track t) (entries f.admissions))
      | false ↦ giving_ending s f
    ]

ending_gives : (o : Option (ℕ × Session)) → Gave (ending_found o)
ending_gives None = (0, tt)
ending_gives (Some e) = (e.0, giving_ending e.0 e.1)

hanging_gives : (c : ℕ) (o : Option (ℕ × Session)) → Gave (hanging_up c o)
hanging_gives c None = (0, tt)
hanging_gives c (Some e) =
    elim (is_channelled c e.1) as (λ t. Gave (cond t (ending e.0 e.1) (unbinding e.0 e.1.binding))) [ true ↦ (e.0, giving_ending e.0 e.1) | false ↦ (e.0, giving_unbinding e.0 e.1.binding) ]

pub made_gives : (w : Whole) (b : Book) (step : Step) → is_growing step ≡ false → Gave (made w b step)
made_gives w b (Return s a x) h = (s, (refl, tt))
made_gives w b (Unwind ch) h = (ch.session, living_gives ch.session (get b ch.session) (unwinding ch) (unwinding_gives ch))
made_gives w b (DropTrack s t) h = (s, living_gives s (get b s) (dropping_track s t) (dropping_gives s t))
made_gives w b (End s) h = (s, living_gives s (get b s) (ending s) (giving_ending s))
made_gives w b (Expire now) h = ending_gives (first_with (is_expired now) (entries b))
made_gives w b (Hangup c) h = hanging_gives c (first_with (is_on c) (entries b))
made_gives w b step h = absurd cc

pub giving_back_law : GivingBack
giving_back_law w j step rs legal room ask grows is =
    let b = book_of j in
    let h = accepted (refusals w (length j) b step) (made w b step) rs is in
    let ok = sound_of w j legal in
    let allowed = (made_granted w (length j) b ok room step ask h.0).allowed in
    let gave = made_gives w b step grows in
    subst (GivesBack b) h.1 (gives_back w gave.0 b (made w b step) ok gave.1 allowed)
