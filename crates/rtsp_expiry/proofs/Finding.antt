-- What one step of a sweep does: the first row that passes, or none.
use Rattle.std.proofs.Common.{◌≡◌, ℕ, Bool, true, false, List, cond, refl, sym, ◌∙◌, subst, append-nil, ⊎_elim, Option, Some, None, Result, Ok, Err}
use Rattle.std.specs.Prelude.{is_none}
use Rattle.std.specs.FinMap.{entries, get-entries}
use Rattle.rtsp_record.specs.declared.changes.Entry.{Entry}
use Rattle.rtsp_record.specs.declared.changes.Record.{Record}
use Rattle.rtsp_record.specs.declared.holdings.Whole.{Whole}
use Rattle.rtsp_record.specs.Books.{Session, book_of}
use Rattle.rtsp_sessions.specs.Searches.{first_with, is_expired, is_on}
use Rattle.rtsp_book.specs.declared.refusals.Refusal.{Refusal}
use Rattle.rtsp_book.specs.declared.refusals.Refusal.TheVariants.{NothingDue}
use Rattle.rtsp_book.specs.declared.steps.Step.{Step}
use Rattle.rtsp_book.specs.declared.steps.Step.TheVariants as step
use Rattle.rtsp_book.specs.Replies.{IsAskable}
use Rattle.rtsp_book.specs.Answers.{Answers}
use Rattle.rtsp_book.specs.Made.{ending_found, hanging_up}
use Rattle.rtsp_sessions.proofs.FirstRows.{first_passes, none_passes}
use Rattle.rtsp_lock.specs.declared.view.View.{View}
use Rattle.rtsp_lock.specs.Calls.{Acted}
use Rattle.rtsp_lock.specs.Numbers.{admission_of}
use Rattle.rtsp_expiry.specs.Sweeps.{IsSweeping}
use Rattle.rtsp_expiry.specs.Endings.{leaving, ended, NoneLeft}

-- the row that a step was accepted for
pub record FoundRow (test : ℕ × Session → Bool) (records : ℕ × Session → List Record) (made : List Record) : Type 0 where
  pub row : ℕ × Session
  pub passes : test row ≡ true
  pub made_is : made ≡ records row

-- the answer to a step that is for the first row that passes
abbrev pub answer_by : (ℕ × Session → Bool) → (Option (ℕ × Session) → List Record) → List (ℕ × Session) → Result (List Record) Refusal
answer_by test all es = cond (is_none (first_with test es)) (Err NothingDue) (Ok (all (first_with test es)))

found : (test : ℕ × Session → Bool) (all : Option (ℕ × Session) → List Record) (es : List (ℕ × Session)) (made : List Record) → answer_by test all es ≡ Ok made → FoundRow test (λ e. all (Some e)) made
found test all es made is =
    elim (first_with test es) as (λ o. first_with test es ≡ o → cond (is_none o) (Err NothingDue) (Ok (all o)) ≡ Ok made → FoundRow test (λ e. all (Some e)) made) [
      | None ↦ λ _ err. absurd cc
      | Some e ↦ λ here ok. record { row = e; passes = first_passes test es e here; made_is = cc }
    ] refl is

refused : (test : ℕ × Session → Bool) (all : Option (ℕ × Session) → List Record) (es : List (ℕ × Session)) (refusal : Refusal) → answer_by test all es ≡ Err refusal → refusal ≡ NothingDue
refused test all es refusal is =
    elim (first_with test es) as (λ o. cond (is_none o) (Err NothingDue) (Ok (all o)) ≡ Err refusal → refusal ≡ NothingDue) [
      | None ↦ λ err. cc
      | Some e ↦ λ ok. absurd cc
    ] is

none_first : (test : ℕ × Session → Bool) (all : Option (ℕ × Session) → List Record) (es : List (ℕ × Session)) → answer_by test all es ≡ Err NothingDue → first_with test es ≡ None
none_first test all es is =
    elim (first_with test es) as (λ o. cond (is_none o) (Err NothingDue) (Ok (all o)) ≡ Err NothingDue → o ≡ None) [
      | None ↦ λ err. refl
      | Some e ↦ λ ok. absurd cc
    ] is

pub expired : (w : Whole) (j : List Entry) (now : ℕ) (made : List Record) → Answers w j (step.Expire now) (Ok made) → FoundRow (is_expired now) ended made
expired w j now made is = found (is_expired now) ending_found (entries (book_of j)) made is

pub hung_up : (w : Whole) (j : List Entry) (conn : ℕ) (made : List Record) → Answers w j (step.Hangup conn) (Ok made) → FoundRow (is_on conn) (leaving conn) made
hung_up w j conn made is = found (is_on conn) (hanging_up conn) (entries (book_of j)) made is

-- steps of sweeps may always be asked
pub askable : (s : Step) → IsSweeping s → IsAskable s
askable (step.Expire now) is = tt
askable (step.Hangup conn) is = tt
askable other is = absurd is

-- and name no number
pub names_no_number : (s : Step) → IsSweeping s → admission_of s ≡ None
names_no_number (step.Expire now) is = refl
names_no_number (step.Hangup conn) is = refl
names_no_number other is = absurd is

-- a step of a sweep is refused where nothing is due, and only then
pub only_nothing : (w : Whole) (j : List Entry) (s : Step) (refusal : Refusal) → IsSweeping s → Answers w j s (Err refusal) → refusal ≡ NothingDue
only_nothing w j (step.Expire now) refusal is answers =
    ⊎_elim (λ e. refused (is_expired now) ending_found (entries (book_of j)) refusal e) (λ memory. let grows : false ≡ true = memory.1 in absurd cc) answers
only_nothing w j (step.Hangup conn) refusal is answers =
    ⊎_elim (λ e. refused (is_on conn) (hanging_up conn) (entries (book_of j)) refusal e) (λ memory. let grows : false ≡ true = memory.1 in absurd cc) answers
only_nothing w j other refusal is answers = absurd is

pub none_expired : (w : Whole) (j : List Entry) (now : ℕ) → Answers w j (step.Expire now) (Err NothingDue) → NoneLeft (is_expired now) (book_of j)
none_expired w j now answers s f there =
    ⊎_elim (λ e. none_passes (is_expired now) (entries (book_of j)) s f (none_first (is_expired now) ending_found (entries (book_of j)) e) (sym (get-entries (book_of j) s) ∙ there)) (λ memory. let grows : false ≡ true = memory.1 in absurd cc) answers

pub none_on : (w : Whole) (j : List Entry) (conn : ℕ) → Answers w j (step.Hangup conn) (Err NothingDue) → NoneLeft (is_on conn) (book_of j)
none_on w j conn answers s f there =
    ⊎_elim (λ e. none_passes (is_on conn) (entries (book_of j)) s f (none_first (is_on conn) (hanging_up conn) (entries (book_of j)) e) (sym (get-entries (book_of j) s) ∙ there)) (λ memory. let grows : false ≡ true = memory.1 in absurd cc) answers

-- so it is in the journal that the refused act leaves as it found it
pub none_expired_seen : (now : ℕ) (v u : View) → Acted v u (step.Expire now) (Err NothingDue) → NoneLeft (is_expired now) (book_of u.seen)
none_expired_seen now v u acted =
    subst (λ (j : List Entry). NoneLeft (is_expired now) (book_of j)) (sym (acted.seen ∙ append-nil acted.journal)) (none_expired v.whole acted.journal now acted.answers)

pub none_on_seen : (conn : ℕ) (v u : View) → Acted v u (step.Hangup conn) (Err NothingDue) → NoneLeft (is_on conn) (book_of u.seen)
none_on_seen conn v u acted =
    subst (λ (j : List Entry). NoneLeft (is_on conn) (book_of j)) (sym (acted.seen ∙ append-nil acted.journal)) (none_on v.whole acted.journal conn acted.answers)
