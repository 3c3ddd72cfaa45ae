-- The numbers under which a seat holds and adds.
use Rattle.std.proofs.Common.{◌≡◌, ◌≢◌, ℕ, List, [], ◌∷◌, ◌++◌, refl, sym, ◌∙◌, ap, subst, inl, inr, zero, suc, Result}
use Rattle.std.specs.Prelude.{Some, None}
use Rattle.std.proofs.lemmas.Bool.{cases_eq}
use Rattle.std.proofs.lemmas.Option.{none-some, same_Some}
use Rattle.std.proofs.lemmas.List.Elements.{filter-append}
use mathlib.Core.List.{IsPrefix}
use Rattle.rtsp_record.specs.declared.changes.Entry.{Entry}
use Rattle.rtsp_record.specs.declared.changes.Record.{Record}
use Rattle.rtsp_book.specs.declared.asks.Ask.{Ask}
use Rattle.rtsp_book.specs.declared.refusals.Refusal.{Refusal}
use Rattle.rtsp_book.specs.declared.steps.Step.{Step}
use Rattle.rtsp_book.specs.Kept.{entries_by}
use Rattle.rtsp_book.specs.Answers.{written}
use Rattle.rtsp_lock.specs.declared.view.View.{View}
use Rattle.rtsp_lock.specs.Entries.{Has}
use Rattle.rtsp_lock.specs.Calls.{Acted}
use Rattle.rtsp_lock.specs.Numbers.{is_use_of, uses, UsesDrawn, admission_of}
use Rattle.rtsp_lock.proofs.Entries.{has_before}
use Rattle.rtsp_lock.proofs.Using.{quiet_answer, not_some}
use Rattle.rtsp_admit.specs.Binder.{Calls}
use Rattle.rtsp_admit.specs.Numbers.{ActsUseDrawn, LooksUseDrawn, DrawsGiveUnused, AdmissionsKeepDrawn}
use Rattle.rtsp_admit.proofs.Keeping.{admissions_keep}

pub acts_use_drawn : ActsUseDrawn
acts_use_drawn v u step answer own names acted =
    let e = entries_by v.actor (written answer) in
    let old : (n : ℕ) → ((a : ℕ) → admission_of step ≡ Some a → n ≢ a) → uses n u.mine ≢ [] → Has u.drawn n =
    λ n apart some.
    subst (λ d. Has d n) (sym acted.drawn) (own n (λ none. some (ap (uses n) acted.mine ∙ filter-append (λ (e : Entry). is_use_of n e.change) v.mine e ∙ ap (λ l. l ++ uses n e) none ∙ quiet_answer n v.actor v.whole acted.journal step answer apart acted.answers))) in
    elim (admission_of step) as (λ o. admission_of step ≡ o → UsesDrawn u) [
      | None ↦ λ is n some. old n (λ a there. absurd (none-some a (sym is ∙ there))) some
      | Some x ↦ λ is n some. elim (cases_eq n x) [
        | inl same ↦ subst (λ k. Has u.drawn k) (sym same) (subst (λ d. Has d x) (sym acted.drawn) (names x is))
        | inr apart ↦ old n (λ a there same. apart (same ∙ same_Some a x (sym there ∙ is))) some
      ]
    ] refl

pub has_last : (xs : List ℕ) (x : ℕ) → Has (xs ++ x ∷ []) x
has_last [] x = (zero, refl)
has_last (z ∷ zs) x = let more = has_last zs x in (suc more.0, more.1)

-- a number drawn is among the numbers drawn later
pub has_later : (xs ys : List ℕ) (x : ℕ) → IsPrefix xs ys → Has xs x → Has ys x
has_later xs ys x p h = subst (λ l. Has l x) p.1 (has_before xs p.0 x h)

pub looks_use_drawn : LooksUseDrawn
looks_use_drawn v u own looked n some = has_later v.drawn u.drawn n looked.stays.drawn (own n (λ none. some (ap (uses n) looked.mine ∙ none)))

pub draws_give_unused : DrawsGiveUnused
draws_give_unused v u n own looked drew = (
  λ k some. subst (λ d. Has d k) (sym drew.drawn) (has_before v.drawn (n ∷ []) k (own k (λ none. some (ap (uses k) looked.mine ∙ none)))),
  record {
    drawn = subst (λ d. Has d n) (sym drew.drawn) (has_last v.drawn n);
    unused = ap (uses n) looked.mine ∙ not_some (uses n v.mine) (λ some. drew.fresh (own n some));
  },
)

-- a seat that has drawn the number of the admission too
abbrev pub Owns : Ask → View → Type 0
Owns ask v = UsesDrawn v × Has v.drawn ask.admission

pub owns : (ask : Ask) (v u : View) (step : Step) (answer : Result (List Record) Refusal) → ((x : ℕ) → admission_of step ≡ Some x → x ≡ ask.admission) → Acted v u step answer → Owns ask v → Owns ask u
owns ask v u step answer of acted own =
    (acts_use_drawn v u step answer own.0 (λ x is. subst (Has v.drawn) (sym (of x is)) own.1) acted, subst (λ d. Has d ask.admission) (sym acted.drawn) own.1)

pub admissions_keep_drawn : {B : Type 0} (calls : Calls B) (ask : Ask) → AdmissionsKeepDrawn calls ask
admissions_keep_drawn calls ask result s t run drawn own = (admissions_keep calls ask (Owns ask) (owns ask) result s t run (own, drawn)).0
