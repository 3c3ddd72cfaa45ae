-- The numbers under which a step takes.
use Rattle.std.proofs.Common.{◌≡◌, ◌≢◌, ◌==◌, ℕ, true, false, cond, List, [], ◌∷◌, ◌++◌, refl, sym, ◌∙◌, ap, subst, inl, inr, Result, Ok, Err}
use Rattle.std.specs.Prelude.{Option, Some, None, nat_lt}
use Rattle.std.proofs.lemmas.Bool.{cases_eq, ne_eqb}
use Rattle.std.proofs.lemmas.Option.{none-some, same_Some}
use Rattle.std.proofs.lemmas.List.Elements.{filter-append}
use Rattle.std.specs.FinMap.{get, entries}
use Rattle.rtsp_record.specs.declared.holdings.Admission.{Admission}
use Rattle.rtsp_record.specs.declared.holdings.Whole.{Whole}
use Rattle.rtsp_record.specs.declared.phases.Phase.{Phase}
use Rattle.rtsp_record.specs.declared.phases.Phase.TheVariants.{Ready, Playing}
use Rattle.rtsp_record.specs.declared.streams.Stream.{Stream}
use Rattle.rtsp_record.specs.declared.changes.Entry.{Entry}
use Rattle.rtsp_record.specs.declared.changes.Record.{Record}
use Rattle.rtsp_record.specs.declared.changes.Record.TheVariants as change
use Rattle.rtsp_record.specs.Books.{Session, Book, book_of}
use Rattle.rtsp_record.specs.Moments.{point, sent_with_due}
use Rattle.rtsp_record.specs.Records.{adds, moves, touches}
use Rattle.rtsp_record.specs.Choices.{least_pair, least_port, chosen_chan}
use Rattle.rtsp_record.specs.Rules.{is_ready}
use Rattle.rtsp_record.proofs.Trims.{AllFine}
use Rattle.rtsp_sessions.specs.declared.startups.Startup.{Startup}
use Rattle.rtsp_sessions.specs.Searches.{first_with, is_of_track}
use Rattle.rtsp_book.specs.declared.refusals.Refusal.{Refusal}
use Rattle.rtsp_book.specs.declared.steps.Step.{Step}
use Rattle.rtsp_book.specs.declared.steps.Step.TheVariants.{Open, HoldRate, HoldPair, HoldPort, HoldChan, Commit, Play, Pause, Finish, Touch}
use Rattle.rtsp_book.specs.Kept.{entries_by}
use Rattle.rtsp_book.specs.Made.{hold_chosen, as_pair, as_port, as_chan, adding, binding_to, committing, playing, pausing, finishing, touching, of_living, made}
use Rattle.rtsp_book.specs.Returns.{dropping, freeing, freeing_rate}
use Rattle.rtsp_book.specs.Answers.{Answers, written}
use Rattle.rtsp_book.proofs.Runs.{Giving, fine-append}
use Rattle.rtsp_book.proofs.Ending.{giving_dropping, giving_freeing, giving_freeing_rate}
use Rattle.rtsp_book.proofs.Giving.{made_gives}
use Rattle.rtsp_book.proofs.Granted.{accepted}
use Rattle.rtsp_lock.specs.Entries.{Has}
use Rattle.rtsp_lock.specs.Numbers.{is_use_of, uses, UnderThese, admission_of}

-- no Hold or Add under this number
abbrev pub Quiet : ℕ → List Record → Type 0
Quiet n rs = AllFine (λ r. is_use_of n r ≡ false) rs

quiet_giving : (n s : ℕ) (rs : List Record) → AllFine (Giving s) rs → Quiet n rs
quiet_giving n s [] g = tt
quiet_giving n s (r ∷ rs) g = (one r g.0, quiet_giving n s rs g.1)
  where
    one : (r : Record) → Giving s r → is_use_of n r ≡ false
    one (change.Hold k) h = absurd h
    one (change.Add d) h = absurd h
    one r h = refl

pub other_number : (a n : ℕ) → n ≢ a → (a == n) ≡ false
other_number a n apart = ne_eqb a n (λ e. apart (sym e))

quiet_pair : (n s a : ℕ) (o : Option ℕ) → n ≢ a → Quiet n (hold_chosen s a (as_pair o))
quiet_pair n s a None apart = tt
quiet_pair n s a (Some p) apart = (other_number a n apart, tt)

quiet_port : (n s a : ℕ) (o : Option ℕ) → n ≢ a → Quiet n (hold_chosen s a (as_port o))
quiet_port n s a None apart = tt
quiet_port n s a (Some p) apart = (other_number a n apart, tt)

quiet_chan : (n s a c : ℕ) (o : Option ℕ) → n ≢ a → Quiet n (hold_chosen s a (as_chan c o))
quiet_chan n s a c None apart = tt
quiet_chan n s a c (Some k) apart = (other_number a n apart, tt)

quiet_binding : (n s : ℕ) (o : Option Startup) → Quiet n (binding_to s o)
quiet_binding n s None = tt
quiet_binding n s (Some u) = (refl, tt)

quiet_adding : (n s a : ℕ) (v : Stream) (o : Option (ℕ × Admission)) → n ≢ a → Quiet n (adding s a v o)
quiet_adding n s a v None apart = (other_number a n apart, tt)
quiet_adding n s a v (Some e) apart =
    fine-append (λ r. is_use_of n r ≡ false) (dropping s e.0 e.1.stream) (adds s a v ∷ (freeing s e.0 e.1.address ++ freeing_rate s e.0 e.1.rate)) (quiet_giving n s (dropping s e.0 e.1.stream) (giving_dropping s e.0 e.1.stream)) (
      other_number a n apart,
      fine-append (λ r. is_use_of n r ≡ false) (freeing s e.0 e.1.address) (freeing_rate s e.0 e.1.rate) (quiet_giving n s (freeing s e.0 e.1.address) (giving_freeing s e.0 e.1.address)) (quiet_giving n s (freeing_rate s e.0 e.1.rate) (giving_freeing_rate s e.0 e.1.rate)),
    )

quiet_living : (n : ℕ) (o : Option Session) (g : Session → List Record) → ((f : Session) → Quiet n (g f)) → Quiet n (of_living o g)
quiet_living n None g h = tt
quiet_living n (Some f) g h = h f

quiet_pausing : (n s unit_ms now : ℕ) (p : Phase) → Quiet n (pausing s unit_ms now p)
quiet_pausing n s unit_ms now p =
    elim (is_ready p) as (λ t. Quiet n (cond t [] (moves s p (Ready (point p unit_ms now) (sent_with_due p unit_ms now)) ∷ []))) [ true ↦ tt | false ↦ (refl, tt) ]

quiet_finishing : (n s unit_ms now : ℕ) (p : Phase) → Quiet n (finishing s unit_ms now p)
quiet_finishing n s unit_ms now (Playing from stop sent since) = (refl, tt)
quiet_finishing n s unit_ms now p = tt

quiet_touching : (n s expires until : ℕ) → Quiet n (touching s expires until)
quiet_touching n s expires until = elim (nat_lt expires until) as (λ t. Quiet n (cond t (touches s expires until ∷ []) [])) [ true ↦ (refl, tt) | false ↦ tt ]

-- a step takes under the admission that it names alone
pub quiet_made : (n : ℕ) (w : Whole) (b : Book) (step : Step) → ((a : ℕ) → admission_of step ≡ Some a → n ≢ a) → Quiet n (made w b step)
quiet_made n w b (Open l) apart = (refl, tt)
quiet_made n w b (HoldRate s a bits) apart = (other_number a n (apart a refl), tt)
quiet_made n w b (HoldPair s a from) apart = quiet_pair n s a (least_pair w b from) (apart a refl)
quiet_made n w b (HoldPort s a from) apart = quiet_port n s a (least_port w b from) (apart a refl)
quiet_made n w b (HoldChan h) apart = quiet_chan n h.session h.admission h.conn (chosen_chan b h.conn h.wish) (apart h.admission refl)
quiet_made n w b (Commit c) apart =
    quiet_living n (get b c.session) (committing c) (λ f.
    let old = first_with (is_of_track c.stream.track) (entries f.admissions) in
    fine-append (λ r. is_use_of n r ≡ false) (adding c.session c.admission c.stream old) (binding_to c.session c.startup) (quiet_adding n c.session c.admission c.stream old (apart c.admission refl)) (quiet_binding n c.session c.startup))
quiet_made n w b (Play d) apart = quiet_living n (get b d.session) (λ f. playing d f.phase) (λ f. (refl, tt))
quiet_made n w b (Pause s unit_ms now) apart = quiet_living n (get b s) (λ f. pausing s unit_ms now f.phase) (λ f. quiet_pausing n s unit_ms now f.phase)
quiet_made n w b (Finish s unit_ms now) apart = quiet_living n (get b s) (λ f. finishing s unit_ms now f.phase) (λ f. quiet_finishing n s unit_ms now f.phase)
quiet_made n w b (Touch s until) apart = quiet_living n (get b s) (λ f. touching s f.expires until) (λ f. quiet_touching n s f.expires until)
quiet_made n w b step apart = let g = made_gives w b step refl in quiet_giving n g.0 (made w b step) g.1

pub quiet_entries : (n by : ℕ) (rs : List Record) → Quiet n rs → uses n (entries_by by rs) ≡ []
quiet_entries n by [] q = refl
quiet_entries n by (r ∷ rs) q =
    let e : Entry = record { actor = by; change = r } in
    ap (λ v. cond v (e ∷ uses n (entries_by by rs)) (uses n (entries_by by rs))) q.0 ∙ quiet_entries n by rs q.1

-- so does its answer
pub quiet_answer : (n by : ℕ) (w : Whole) (j : List Entry) (step : Step) (answer : Result (List Record) Refusal) → ((a : ℕ) → admission_of step ≡ Some a → n ≢ a) → Answers w j step answer → uses n (entries_by by (written answer)) ≡ []
quiet_answer n by w j step (Err r) apart answers = refl
quiet_answer n by w j step (Ok rs) apart answers =
    subst (λ rs. uses n (entries_by by rs) ≡ []) (accepted _ (made w (book_of j) step) rs answers).1 (quiet_entries n by (made w (book_of j) step) (quiet_made n w (book_of j) step apart))

pub not_some : {X : Type 0} (l : List X) → (l ≢ [] → ⊥) → l ≡ []
not_some [] none = refl
not_some (x ∷ l) none = absurd (none (λ e. absurd cc))

-- a step that names a number among these, or none, is answered under these
pub answered_under : (drawn : List ℕ) (by : ℕ) (w : Whole) (j : List Entry) (step : Step) (answer : Result (List Record) Refusal) → ((a : ℕ) → admission_of step ≡ Some a → Has drawn a) → Answers w j step answer → UnderThese drawn (entries_by by (written answer))
answered_under drawn by w j step answer names answers n some =
    elim (admission_of step) as (λ o. admission_of step ≡ o → Has drawn n) [
      | None ↦ λ is. absurd (some (quiet_answer n by w j step answer (λ a there. absurd (none-some a (sym is ∙ there))) answers))
      | Some x ↦ λ is. elim (cases_eq n x) [
        | inl same ↦ subst (Has drawn) (sym same) (names x is)
        | inr apart ↦ absurd (some (quiet_answer n by w j step answer (λ a there same. apart (same ∙ same_Some a x (sym there ∙ is))) answers))
      ]
    ] refl

-- entries behind others, both under numbers of these
pub under_more : (numbers : List ℕ) (i j : List Entry) → UnderThese numbers i → UnderThese numbers j → UnderThese numbers (i ++ j)
under_more numbers i j first second n some =
    let all = filter-append (λ (e : Entry). is_use_of n e.change) i j in
    elim (uses n i) as (λ l. uses n i ≡ l → Has numbers n) [
      | [] ↦ λ none. second n (λ also. some (all ∙ (ap (λ (l : List Entry). l ++ uses n j) none ∙ also)))
      | x ∷ l ↦ λ is. first n (λ none. let no : ◌≡◌ {A = List Entry} (x ∷ l) [] = sym is ∙ none in absurd cc)
    ] refl

-- under more numbers
pub under_longer : (some more : List ℕ) (j : List Entry) → ((n : ℕ) → Has some n → Has more n) → UnderThese some j → UnderThese more j
under_longer some more j longer under n used = longer n (under n used)

pub under_none : (numbers : List ℕ) (j : List Entry) → j ≡ [] → UnderThese numbers j
under_none numbers j none n some = absurd (some (ap (uses n) none))
