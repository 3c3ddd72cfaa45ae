-- What a Commit frees is of other admissions.
use Rattle.std.proofs.Common.{◌≡◌, ◌==◌, ℕ, true, false, ◌&&◌, ◌||◌, not, List, [], ◌∷◌, ◌++◌, refl, ◌∙◌, ap, subst, Ok}
use Rattle.std.specs.Prelude.{Option, Some, None, is_some}
use Rattle.std.proofs.lemmas.Bool.{ne_eqb, both_ways, or_parts}
use Rattle.std.specs.FinMap.{get, entries, entries_sorted, get-entries}
use Rattle.rtsp_record.specs.declared.holdings.Admission.{Admission}
use Rattle.rtsp_record.specs.declared.holdings.Thing.{Thing}
use Rattle.rtsp_record.specs.declared.holdings.Thing.TheVariants.{Pair, Port}
use Rattle.rtsp_record.specs.declared.streams.Stream.{Stream}
use Rattle.rtsp_record.specs.declared.changes.Record.{Record}
use Rattle.rtsp_record.specs.declared.changes.Record.TheVariants.{Free}
use Rattle.rtsp_record.specs.Records.{frees, adds}
use Rattle.rtsp_record.specs.Books.{Session, or_bare, under, book_of}
use Rattle.rtsp_record.specs.Rules.{is_ready, is_same_thing, if_living}
use Rattle.rtsp_record.proofs.Trims.{AllFine}
use Rattle.rtsp_book.specs.declared.asks.Ask.{Ask}
use Rattle.rtsp_book.specs.declared.steps.Commit.{Commit}
use Rattle.rtsp_sessions.specs.declared.startups.Startup.{Startup}
use Rattle.rtsp_book.specs.Replies.{is_wrong_commit, refusals}
use Rattle.rtsp_book.specs.Returns.{dropping, freeing, freeing_rate}
use Rattle.rtsp_sessions.specs.Searches.{first_with}
use Rattle.rtsp_book.specs.Sessions.{has_stream_under}
use Rattle.rtsp_sessions.specs.Searches.{is_of_track, is_track}
use Rattle.rtsp_book.specs.Made.{adding, binding_to, committing, of_living, made}
use Rattle.rtsp_sessions.proofs.FirstRows.{first_passes, first_found}
use Rattle.rtsp_book.proofs.Granted.{accepted}
use Rattle.rtsp_book.proofs.Runs.{fine-append}
use Rattle.rtsp_lock.specs.declared.view.View.{View}
use Rattle.rtsp_lock.specs.Calls.{Acted}
use Rattle.rtsp_book.specs.Receipts.{freed_pairs, freed_ports}
use Rattle.rtsp_admit.specs.Binder.{as_pairs, as_ports, freed_addresses}
use Rattle.rtsp_admit.specs.Steps.{commit_step}
use Rattle.rtsp_admit.specs.Addresses.{is_address, is_among}

-- a record frees nothing under the admission
abbrev pub FreesOther : ℕ → Record → Type 0
FreesOther a (Free k) = (a == k.admission) ≡ false
FreesOther a r = Unit {0}

-- among the pairs of some records, and among their single ports, is none of the admission
abbrev NoneAmong : ℕ → Thing → List Record → Type 0
NoneAmong a y rs = (is_among (as_pairs (freed_pairs rs)) a y ≡ false) × (is_among (as_ports (freed_ports rs)) a y ≡ false)

free_one : (a b s : ℕ) (x y : Thing) (rs : List Record) → (a == b) ≡ false → NoneAmong a y rs → NoneAmong a y (frees s b x ∷ rs)
free_one a b s (Pair p) y rs off rest = (ap (λ v. (v && is_same_thing y (Pair p)) || is_among (as_pairs (freed_pairs rs)) a y) off ∙ rest.0, rest.1)
free_one a b s (Port p) y rs off rest = (rest.0, ap (λ v. (v && is_same_thing y (Port p)) || is_among (as_ports (freed_ports rs)) a y) off ∙ rest.1)
free_one a b s x y rs off rest = rest

among_none : (a : ℕ) (y : Thing) (rs : List Record) → AllFine (FreesOther a) rs → NoneAmong a y rs
among_none a y [] h = (refl, refl)
among_none a y (Free k ∷ rs) h = free_one a k.admission k.session k.thing y rs h.0 (among_none a y rs h.1)
among_none a y (r ∷ rs) h = among_none a y rs h.1

-- nor is it among both
among_both : (xs ys : List (ℕ × Thing)) (a : ℕ) (y : Thing) → is_among xs a y ≡ false → is_among ys a y ≡ false → is_among (xs ++ ys) a y ≡ false
among_both [] ys a y first second = second
among_both (x ∷ xs) ys a y first second =
    let parts = or_parts (is_address x.0 x.1 a y) (is_among xs a y) first in
    ap (λ v. v || is_among (xs ++ ys) a y) parts.0 ∙ among_both xs ys a y parts.1 second

other_dropping : (a s b : ℕ) (o : Option Stream) → AllFine (FreesOther a) (dropping s b o)
other_dropping a s b None = tt
other_dropping a s b (Some v) = (tt, tt)

other_freeing : (a s b : ℕ) (o : Option Thing) → (a == b) ≡ false → AllFine (FreesOther a) (freeing s b o)
other_freeing a s b None off = tt
other_freeing a s b (Some x) off = (off, tt)

other_rate : (a s b : ℕ) (o : Option ℕ) → (a == b) ≡ false → AllFine (FreesOther a) (freeing_rate s b o)
other_rate a s b None off = tt
other_rate a s b (Some n) off = (off, tt)

other_binding : (a s : ℕ) (o : Option Startup) → AllFine (FreesOther a) (binding_to s o)
other_binding a s None = tt
other_binding a s (Some u) = (tt, tt)

other_adding : (a s : ℕ) (v : Stream) (o : Option (ℕ × Admission)) → ((e : ℕ × Admission) → o ≡ Some e → (a == e.0) ≡ false) → AllFine (FreesOther a) (adding s a v o)
other_adding a s v None apart = (tt, tt)
other_adding a s v (Some e) apart =
    let off = apart e refl in
    fine-append (FreesOther a) (dropping s e.0 e.1.stream) (adds s a v ∷ (freeing s e.0 e.1.address ++ freeing_rate s e.0 e.1.rate)) (other_dropping a s e.0 e.1.stream)
    (tt, fine-append (FreesOther a) (freeing s e.0 e.1.address) (freeing_rate s e.0 e.1.rate) (other_freeing a s e.0 e.1.address off) (other_rate a s e.0 e.1.rate off))

on_track : (t : ℕ) (o : Option Stream) → is_track t o ≡ true → is_some o ≡ true
on_track t None h = absurd cc
on_track t (Some v) h = refl

-- the stream of the same track is under another admission
other_admission : (f : Session) (a t : ℕ) (e : ℕ × Admission) → has_stream_under f a ≡ false → first_with (is_of_track t) (entries f.admissions) ≡ Some e → (a == e.0) ≡ false
other_admission f a t e none some =
    let there : under f e.0 ≡ e.1 = ap or_bare (get-entries f.admissions e.0 ∙ first_found (is_of_track t) (entries f.admissions) e (entries_sorted f.admissions) some) in
    let on : is_some e.1.stream ≡ true = on_track t e.1.stream (first_passes (is_of_track t) (entries f.admissions) e some) in
    let stream : has_stream_under f e.0 ≡ true = ap (λ (d : Admission). is_some d.stream) there ∙ on in
    ne_eqb a e.0 (λ same. both_ways (has_stream_under f a) none (ap (has_stream_under f) same ∙ stream))

other_living : (c : Commit) (o : Option Session) → if_living o (is_wrong_commit c.admission c.stream) ≡ false → AllFine (FreesOther c.admission) (of_living o (committing c))
other_living c None right = tt
other_living c (Some f) right =
    let first = or_parts (not (is_ready f.phase) || has_stream_under f c.admission) _ right in
    let parts = or_parts (not (is_ready f.phase)) (has_stream_under f c.admission) first.0 in
    let o = first_with (is_of_track c.stream.track) (entries f.admissions) in
    fine-append (FreesOther c.admission) (adding c.session c.admission c.stream o) (binding_to c.session c.startup)
    (other_adding c.admission c.session c.stream o (λ e some. other_admission f c.admission c.stream.track e parts.1 some)) (other_binding c.admission c.session c.startup)

-- a Commit frees no ports under its own admission
pub commit_keeps : (ask : Ask) (v u : View) (rs : List Record) → Acted v u (commit_step ask) (Ok rs) → (y : Thing) → is_among (freed_addresses rs) ask.admission y ≡ false
commit_keeps ask v u rs acted y =
    let b = book_of acted.journal in
    let c : Commit = record { session = ask.session; admission = ask.admission; stream = ask.stream; startup = ask.startup } in
    let answer = accepted (refusals v.whole _ b (commit_step ask)) (made v.whole b (commit_step ask)) rs acted.answers in
    let none = among_none ask.admission y rs (subst (AllFine (FreesOther ask.admission)) answer.1 (other_living c (get b ask.session) answer.0.wrong_state)) in
    among_both (as_pairs (freed_pairs rs)) (as_ports (freed_ports rs)) ask.admission y none.0 none.1
