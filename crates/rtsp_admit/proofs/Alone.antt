-- The only seat of a lock, whose journal has its own entries alone.
use Rattle.std.proofs.Common.{◌≡◌, ℕ, List, ◌++◌, refl, sym, ◌∙◌, subst, Result, Err}
use Rattle.std.specs.Prelude.{Some}
use Rattle.rtsp_record.specs.declared.changes.Entry.{Entry}
use Rattle.rtsp_record.specs.declared.changes.Record.{Record}
use Rattle.rtsp_book.specs.declared.asks.Ask.{Ask}
use Rattle.rtsp_book.specs.declared.refusals.Refusal.{Refusal}
use Rattle.rtsp_book.specs.declared.steps.Step.{Step}
use Rattle.rtsp_book.specs.Answers.{written}
use Rattle.rtsp_book.specs.Kept.{entries_by}
use Rattle.rtsp_lock.specs.declared.view.View.{View}
use Rattle.rtsp_lock.specs.Entries.{OnlyOf, Has}
use Rattle.rtsp_lock.specs.Calls.{Acted}
use Rattle.rtsp_lock.specs.Numbers.{is_use_of, admission_of}
use Rattle.rtsp_lock.proofs.Entries.{only_by, only_passing, only_then}
use Rattle.rtsp_admit.specs.Binder.{Calls}
use Rattle.rtsp_admit.specs.Numbers.{OwnsAll, OwnsAllLasts, AdmissionsKeepAll, RefusalsLeaveNothingAlone}
use Rattle.rtsp_admit.proofs.Drawing.{acts_use_drawn, looks_use_drawn}
use Rattle.rtsp_admit.proofs.Keeping.{admissions_keep}
use Rattle.rtsp_admit.proofs.Unwinding.{leaves_nothing_unused}

pub owns_all_lasts : OwnsAllLasts
owns_all_lasts = record {
  first = λ drawn w. record { alone = refl; own = tt; drawn = λ n some. absurd (some refl) };
  looked = λ v u o looked. record {
    alone = looked.alone.still ∙ o.alone;
    own = subst (OnlyOf u.actor) (sym (looked.seen ∙ looked.alone.found o.alone)) (subst (λ n. OnlyOf n v.seen) (sym looked.stays.actor) o.own);
    drawn = looks_use_drawn v u o.drawn looked;
  };
  acted = λ v u step answer o names acted.
      let es = entries_by v.actor (written answer) in
      let all : OnlyOf v.actor (v.seen ++ es) = only_then v.actor v.seen es o.own (only_by v.actor (written answer)) in
      let behind : OnlyOf v.actor (acted.journal ++ es) = subst (λ (j : List Entry). OnlyOf v.actor (j ++ es)) (sym (acted.alone.found o.alone)) all in
      record {
        alone = acted.alone.still ∙ o.alone;
        own = subst (OnlyOf u.actor) (sym acted.seen) (subst (λ n. OnlyOf n (acted.journal ++ es)) (sym acted.stays.actor) behind);
        drawn = acts_use_drawn v u step answer o.drawn names acted;
      };
}

module _ {B : Type 0} (calls : Calls B) (ask : Ask) where
  -- one that drew the number of the admission
  abbrev OwnsNumber : View → Type 0
  OwnsNumber v = OwnsAll v × Has v.drawn ask.admission

  owns_number : (v u : View) (step : Step) (answer : Result (List Record) Refusal) → ((x : ℕ) → admission_of step ≡ Some x → x ≡ ask.admission) → Acted v u step answer → OwnsNumber v → OwnsNumber u
  owns_number v u step answer of acted own = (
    owns_all_lasts.acted v u step answer own.0 (λ x is. subst (Has v.drawn) (sym (of x is)) own.1) acted,
    subst (λ d. Has d ask.admission) (sym acted.drawn) own.1,
  )

  pub admissions_keep_all : AdmissionsKeepAll calls ask
  admissions_keep_all result s t run drawn own = (admissions_keep calls ask OwnsNumber owns_number result s t run (own, drawn)).0

  pub leaves_nothing_alone : RefusalsLeaveNothingAlone calls ask
  leaves_nothing_alone refusal s t run own unused =
      let u = t.view in
      let after : OwnsAll u = admissions_keep_all (Err refusal) s t run unused.drawn own in
      leaves_nothing_unused calls ask refusal s t run unused (only_passing u.actor (λ (e : Entry). is_use_of ask.admission e.change) u.seen after.own)
