-- One session more is ended, until none lives.
use Rattle.std.proofs.Common.{◌≡◌, ℕ, Bool, true, false, List, [], ◌∷◌, ◌++◌, cond, refl, ap, sym, ◌∙◌, subst, ⊎_elim, append-nil, append_assoc, arith, Option, Some, None, Result, Ok, Err}
use Rattle.std.specs.Prelude.{flat_map, is_none, length, nat_le, option_map}
use Rattle.std.proofs.lemmas.Grind.{flat_map-append}
use Rattle.std.proofs.lemmas.List.{map-append}
use Rattle.std.proofs.lemmas.Bool.{leb-false}
use Rattle.std.specs.FinMap.{get, entries, empty, empty_of_len, len-entries}
use Rattle.rtsp_record.specs.declared.changes.Entry.{Entry}
use Rattle.rtsp_record.specs.declared.changes.Record.{Record}
use Rattle.rtsp_record.specs.declared.holdings.Whole.{Whole}
use Rattle.rtsp_record.specs.Books.{Book, Session, book_of}
use Rattle.rtsp_record.specs.Rules.{if_living}
use Rattle.rtsp_sessions.specs.Lookups.{first_from}
use Rattle.rtsp_sessions.specs.Searches.{first_with}
use Rattle.rtsp_book.specs.declared.refusals.Refusal.{Refusal}
use Rattle.rtsp_book.specs.declared.refusals.Refusal.TheVariants.{NoSession}
use Rattle.rtsp_book.specs.declared.steps.Step.TheVariants as step
use Rattle.rtsp_book.specs.Answers.{Answers, noted_by}
use Rattle.rtsp_book.specs.Kept.{History, history, entries_by, extended}
use Rattle.rtsp_book.specs.Made.{of_living}
use Rattle.rtsp_book.specs.Returns.{ending}
use Rattle.rtsp_expiry.specs.Endings.{ended}
use Rattle.rtsp_expiry.specs.Emptying.{EndsAll}

-- the session whose end was recorded
pub record FoundSession (s : ℕ) (made : List Record) : Type 0 where
  pub session : Session
  pub made_is : made ≡ ending s session

found : (s : ℕ) (o : Option Session) (made : List Record) → cond (is_none o) (Err NoSession) (Ok (of_living o (ending s))) ≡ Ok made → FoundSession s made
found s o made is =
    elim o as (λ o. cond (is_none o) (Err NoSession) (Ok (of_living o (ending s))) ≡ Ok made → FoundSession s made) [
      | None ↦ λ err. absurd cc
      | Some f ↦ λ ok. record { session = f; made_is = cc }
    ] is

of_answer : (w : Whole) (j : List Entry) (s : ℕ) (made : List Record) → Answers w j (step.End s) (Ok made) → FoundSession s made
of_answer w j s made is = found s (get (book_of j) s) made is

-- nothing was ended yet
pub none_ended : (actor : ℕ) (h : History) → EndsAll actor h h
none_ended actor h = record {
  sessions = [];
  noted = ap (λ (j : List Entry). history h.whole j h.next h.rounds) (sym (append-nil h.journal));
}

-- an answer to the end of one more session
pub one_more : (actor : ℕ) (old h : History) (s : ℕ) (made : List Record) → EndsAll actor old h → Answers h.whole h.journal (step.End s) (Ok made)
    → EndsAll actor old (extended h actor made)
one_more actor old h s made was answers =
    let e = of_answer h.whole h.journal s made answers in
    let before = flat_map ended was.sessions in
    let all : flat_map ended (was.sessions ++ (s, e.session) ∷ []) ≡ before ++ made =
    flat_map-append ended was.sessions ((s, e.session) ∷ []) ∙ ap (λ (l : List Record). before ++ l) (append-nil (ending s e.session) ∙ sym e.made_is) in
    let joined : (old.journal ++ entries_by actor before) ++ entries_by actor made ≡ old.journal ++ entries_by actor (before ++ made) =
    append_assoc old.journal (entries_by actor before) (entries_by actor made) ∙ ap (λ (l : List Entry). old.journal ++ l) (sym (map-append _ before made)) in
    record {
      sessions = was.sessions ++ (s, e.session) ∷ [];
      noted = ap (λ (g : History). extended g actor made) was.noted ∙ ap (λ (j : List Entry). history old.whole j old.next old.rounds) joined ∙ ap (λ (l : List Record). extended old actor l) (sym all);
    }

-- so it is after any answer
pub one_act : (actor : ℕ) (old h : History) (s : ℕ) (answer : Result (List Record) Refusal) → EndsAll actor old h → Answers h.whole h.journal (step.End s) answer
    → EndsAll actor old (noted_by actor h answer)
one_act actor old h s (Ok made) was answers = one_more actor old h s made was answers
one_act actor old h s (Err refusal) was answers = was

-- where no session is found none lives
no_rows : (es : List (ℕ × Session)) → first_from 0 es ≡ None → length es ≡ 0
no_rows [] none = refl
no_rows (e ∷ es) none =
    elim (nat_le 0 e.0) as (λ t. nat_le 0 e.0 ≡ t → option_map (λ (e : ℕ × Session). e.0) (cond t (Some e) (first_with (λ (e : ℕ × Session). nat_le 0 e.0) es)) ≡ None → length (e ∷ es) ≡ 0) [
      | true ↦ λ _ is. absurd cc
      | false ↦ λ fails _. absurd (omega (arith, leb-false 0 e.0 fails))
    ] refl none

pub nobody : (b : Book) → first_from 0 (entries b) ≡ None → b ≡ empty
nobody b none = empty_of_len b (len-entries b ∙ no_rows (entries b) none)
