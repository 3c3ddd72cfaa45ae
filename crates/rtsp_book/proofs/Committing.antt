-- The records of a commit are allowed.
use Rattle.std.proofs.Common.{◌≡◌, ◌≢◌, ◌==◌, ℕ, ◌≤◌, Bool, true, false, ◌||◌, not, cond, List, [], ◌∷◌, ◌++◌, refl, sym, ◌∙◌, ap, subst, arith}
use Rattle.std.specs.Prelude.{Option, Some, None, IsSome, sum_by}
use Rattle.std.proofs.lemmas.Bool.Decides.{Decides-eqb, nat_tests}
use Rattle.std.proofs.lemmas.List.Sums.{sum_by-cons}
use Rattle.std.specs.FinMap.{entries, entries_sorted, get-entries}
use Rattle.rtsp_record.specs.declared.streams.Stream.{Stream}
use Rattle.rtsp_record.specs.declared.holdings.Whole.{Whole}
use Rattle.rtsp_record.specs.declared.changes.Record.{Record}
use Rattle.rtsp_record.specs.declared.changes.Record.TheVariants.{Bind}
use Rattle.rtsp_record.specs.Records.{adds, drops}
use Rattle.rtsp_record.specs.declared.holdings.Admission.{Admission}
use Rattle.rtsp_record.specs.Books.{Session, Book, or_bare, streaming, under, with_under, after, after_all}
use Rattle.rtsp_record.specs.Sums.{nothing, if_there, of_admission, of_session, amount, one_if, bindings, clashing, elsewhere}
use Rattle.rtsp_record.specs.Rules.{IsReady, AllAllowed}
use Rattle.rtsp_sessions.specs.Searches.{first_with, is_track, is_of_track}
use Rattle.rtsp_book.specs.Returns.{dropping, freeing, freeing_rate}
use Rattle.rtsp_book.specs.Made.{adding}
use Rattle.rtsp_record.proofs.Rows.{under-own, under-else, normal-under}
use Rattle.rtsp_record.proofs.Options.{nought}
use Rattle.rtsp_record.proofs.Balance.{gain, row_balance, balance}
use Rattle.rtsp_record.specs.Sound.{SoundSession}
use Rattle.rtsp_record.proofs.Sound.{one_is, clash_itself, stream_counts}
use Rattle.rtsp_record.proofs.Trims.{AllFine}
use Rattle.rtsp_sessions.proofs.FirstRows.{first_found, first_passes}
use Rattle.rtsp_book.proofs.Runs.{Run, run-append, Lone, all_lone, fine-append}
use Rattle.rtsp_book.proofs.Ending.{dropping_run, freeing_run, freeing_rate_run, giving_dropping, giving_freeing, giving_freeing_rate}

other_way : (n m : ℕ) → (n == m) ≡ false → (m == n) ≡ false
other_way n m h = grind (arith, nat_tests)

off_track : (v : Stream) (o : Option Stream) → is_track v.track o ≡ false → if_there (clashing v).stream o ≡ if_there (elsewhere v).stream o
off_track v None h = refl
off_track v (Some u) h = ap (λ t. one_if (t || not (v.presentation == u.presentation))) (other_way u.track v.track h)

-- where no stream has the track, what clashes is of another presentation
no_such_track : (v : Stream) (es : List (ℕ × Admission)) → first_with (is_of_track v.track) es ≡ None → sum_by (λ e. of_admission (clashing v) e.1) es ≤ sum_by (λ e. of_admission (elsewhere v) e.1) es
no_such_track v [] h = omega arith
no_such_track v (e ∷ es) h =
    elim (is_of_track v.track e) as (λ t. is_of_track v.track e ≡ t → cond t (Some e) (first_with (is_of_track v.track) es) ≡ None → sum_by (λ e. of_admission (clashing v) e.1) (e ∷ es) ≤ sum_by (λ e. of_admission (elsewhere v) e.1) (e ∷ es)) [
      | true ↦ λ _ h. absurd cc
      | false ↦ λ off h. omega (arith, sum_by-cons (λ e. of_admission (clashing v) e.1) e es, sum_by-cons (λ e. of_admission (elsewhere v) e.1) e es, no_such_track v es h, off_track v e.1.stream off)
    ] refl h

fresh_track : (v : Stream) (f : Session) → first_with (is_of_track v.track) (entries f.admissions) ≡ None → of_session (elsewhere v) f ≡ 0 → of_session (clashing v) f ≡ 0
fresh_track v f none zero = omega (arith, no_such_track v (entries f.admissions) none, zero, nought f.binding)

-- what a commit is granted on
pub record MayCommit (f : Session) (a : ℕ) (v : Stream) : Type 0 where
  pub ready : IsReady f.phase
  pub rate : IsSome (under f a).rate
  pub address : IsSome (under f a).address
  pub no_stream : (under f a).stream ≡ None
  pub same_place : of_session (elsewhere v) f ≡ 0

-- the session that an adding leaves
pub record Adding (s a : ℕ) (v : Stream) (f : Session) (o : Option (ℕ × Admission)) : Type 0 where
  pub left : Session
  pub run : Run (adding s a v o) f left
  pub binding : left.binding ≡ f.binding

zero_if : (t : Bool) → one_if (not t) ≤ 0 → t ≡ true
zero_if true h = refl
zero_if false h = absurd (omega (arith, h))

-- streams of one track and presentation clash with the same
same_clash : (v u : Stream) (f : Session) → v.track ≡ u.track → v.presentation ≡ u.presentation → of_session (clashing v) f ≡ of_session (clashing u) f
same_clash v u f t p = λ i. of_session (record nothing { stream = λ x. one_if (t i == x.track || not (p i == x.presentation)) }) f

-- the stream of another admission is taken down, and the new one is set up
module _ (s a b : ℕ) (v u : Stream) (f : Session) (d : Admission) (may : MayCommit f a v) (is : under f b ≡ d) (some : d.stream ≡ Some u) (track : u.track ≡ v.track) where
  there : (under f b).stream ≡ Some u
  there = ap (λ (d : Admission). d.stream) is ∙ some

  apart : a ≢ b
  apart = λ e. absurd (cc (sym may.no_stream ∙ ap (λ a. (under f a).stream) e ∙ there))

  -- the session without the old stream, and with the new one
  abbrev downed : Session
  downed = with_under f b (streaming None d)

  same_under : under downed a ≡ under f a
  same_under = under-else f b a (streaming None d) apart

  abbrev upped : Session
  upped = with_under downed a (streaming (Some v) (under downed a))

  no_clash_left : (w : Whole) → SoundSession w f → of_session (clashing v) downed ≡ 0
  no_clash_left w ok =
      let place : v.presentation ≡ u.presentation = (Decides-eqb v.presentation u.presentation).0 (zero_if (v.presentation == u.presentation) (omega (arith, stream_counts (elsewhere v) f b u there, may.same_place))) in
      let none_left : of_session (clashing u) downed ≡ 0 = omega (arith, row_balance (clashing u) (drops s b u) (Some f) (record { ready = may.ready; there = there }), ap (λ d. of_session (clashing u) (with_under f b (streaming None d))) is, ok.apart b u there, one_is _ (clash_itself u)) in
      same_clash v u downed (sym track) place ∙ none_left

  add_run : of_session (clashing v) downed ≡ 0 → Run (adds s a v ∷ []) downed upped
  add_run no_clash = record {
    own = (
      record {
        ready = may.ready;
        rate = subst (λ (d : Admission). IsSome d.rate) (sym same_under) may.rate;
        address = subst (λ (d : Admission). IsSome d.address) (sym same_under) may.address;
        no_stream = ap (λ (d : Admission). d.stream) same_under ∙ may.no_stream;
        no_clash = no_clash;
      },
      tt,
    );
    ends = refl;
  }

  -- what the old admission held is free again
  replaced : (w : Whole) → SoundSession w f → Adding s a v f (Some (b, d))
  replaced w ok =
      let d1 = streaming None d in
      let da = streaming (Some v) (under downed a) in
      let d2 : Admission = record d1 { address = None } in
      let f3 = with_under upped b d2 in
      let d3 : Admission = record d2 { rate = None } in
      let f4 = with_under f3 b d3 in
      let n2 = normal-under downed a da (normal-under f b d1 ok.normal) in
      let n3 = normal-under upped b d2 n2 in
      let at_b : under upped b ≡ d1 = under-else downed a b da (λ e. apart (sym e)) ∙ under-own f b d1 in
      let back = run-append (freeing s b d.address) (freeing_rate s b d.rate) upped f3 f4
      (freeing_run s b upped d1 n2 at_b refl (λ x h. (ok.in_whole b x (ap (λ (d : Admission). d.address) is ∙ h)).1))
      (freeing_rate_run s b f3 d2 n3 (under-own upped b d2) refl) in
      record {
        left = f4;
        run = run-append (dropping s b d.stream) (adds s a v ∷ (freeing s b d.address ++ freeing_rate s b d.rate)) f downed f4
            (dropping_run s b f d may.ready ok.normal is)
            (run-append (adds s a v ∷ []) (freeing s b d.address ++ freeing_rate s b d.rate) downed upped f4 (add_run (no_clash_left w ok)) back);
        binding = refl;
      }

the_track : (w : Whole) (s a : ℕ) (v : Stream) (f : Session) (e : ℕ × Admission) → SoundSession w f → MayCommit f a v → under f e.0 ≡ e.1 → is_of_track v.track e ≡ true → Adding s a v f (Some e)
the_track w s a v f e ok may is track =
    elim (e.1.stream) as (λ o. e.1.stream ≡ o → is_track v.track o ≡ true → Adding s a v f (Some e)) [
      | None ↦ λ _ h. absurd cc
      | Some u ↦ λ some h. replaced s a e.0 v u f e.1 may is some ((Decides-eqb u.track v.track).0 h) w ok
    ] refl track

pub adding_run : (w : Whole) (s a : ℕ) (v : Stream) (f : Session) → SoundSession w f → MayCommit f a v → Adding s a v f (first_with (is_of_track v.track) (entries f.admissions))
adding_run w s a v f ok may =
    elim (first_with (is_of_track v.track) (entries f.admissions)) as (λ o. first_with (is_of_track v.track) (entries f.admissions) ≡ o → Adding s a v f o) [
      | None ↦ λ none. record {
        left = with_under f a (streaming (Some v) (under f a));
        run = record { own = (record { ready = may.ready; rate = may.rate; address = may.address; no_stream = may.no_stream; no_clash = fresh_track v f none may.same_place }, tt); ends = refl };
        binding = refl;
      }
      | Some e ↦ λ some.
          the_track w s a v f e ok may (ap or_bare (get-entries f.admissions e.0 ∙ first_found (is_of_track v.track) (entries f.admissions) e (entries_sorted f.admissions) some)) (first_passes (is_of_track v.track) (entries f.admissions) e some)
    ] refl

pub lone_adding : (s a : ℕ) (v : Stream) (o : Option (ℕ × Admission)) → AllFine (Lone s) (adding s a v o)
lone_adding s a v None = (refl, tt)
lone_adding s a v (Some e) =
    fine-append (Lone s) (dropping s e.0 e.1.stream) (adds s a v ∷ (freeing s e.0 e.1.address ++ freeing_rate s e.0 e.1.rate)) (all_lone s _ (giving_dropping s e.0 e.1.stream))
    (refl, fine-append (Lone s) (freeing s e.0 e.1.address) (freeing_rate s e.0 e.1.rate) (all_lone s _ (giving_freeing s e.0 e.1.address)) (all_lone s _ (giving_freeing_rate s e.0 e.1.rate)))

no_binding : (s c i : ℕ) (r : Record) → Lone s r → gain (bindings c i) r ≡ 0
no_binding s c i (Bind k) h = absurd h
no_binding s c i r h = refl

-- such records bind nothing
pub lone_bound : (w : Whole) (s c i : ℕ) (b : Book) (rs : List Record) → AllFine (Lone s) rs → AllAllowed w b rs → amount (bindings c i) (after_all b rs) ≤ amount (bindings c i) b
lone_bound w s c i b [] l h = omega arith
lone_bound w s c i b (r ∷ rs) l h = omega (arith, lone_bound w s c i (after b r) rs l.1 h.1, balance (bindings c i) b r h.0.0, no_binding s c i r l.0)
