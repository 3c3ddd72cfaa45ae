-- What a run of a sweep comes to.
use Rattle.std.proofs.Common.{◌≡◌, ℕ, zero, suc, ◌+◌, Bool, true, false, List, [], ◌∷◌, ◌++◌, length, refl, ap, sym, ◌∙◌, subst, arith, append-nil, length-append, Ok, Err}
use Rattle.std.specs.Prelude.{All, flat_map}
use Rattle.std.proofs.lemmas.List.Elements.{All-append, All-nil}
use Rattle.std.proofs.lemmas.Grind.{flat_map-append}
use Rattle.rtsp_record.specs.declared.changes.Record.{Record}
use Rattle.rtsp_record.specs.Books.{Session, book_of}
use Rattle.rtsp_book.specs.declared.refusals.Refusal.TheVariants.{NothingDue}
use Rattle.rtsp_book.specs.declared.steps.Step.{Step}
use Rattle.rtsp_lock.specs.declared.view.View.{View}
use Rattle.rtsp_lock.specs.Calls.{Acted}
use Rattle.rtsp_lock.specs.Laws.{Grown}
use Rattle.rtsp_admit.specs.Binder.{Calls}
use Rattle.rtsp_admit.specs.Runs.{State}
use Rattle.rtsp_admit.proofs.Adding.{grown_self, grown_acted, grown_then}
use Rattle.rtsp_expiry.specs.declared.swept.Swept.{Swept}
use Rattle.rtsp_expiry.specs.Sweeps.{OneMore, Accepted, Stops, FindsNothing, Sweeps}
use Rattle.rtsp_expiry.specs.Endings.{EndsOnly, NoneLeft}
use Rattle.rtsp_expiry.proofs.Finding.{FoundRow}

module _ {B : Type 0} (calls : Calls B) (step : Step) (test : ℕ × Session → Bool) (records : ℕ × Session → List Record) where
  -- each accepted step is for a row that passes
  abbrev pub Finds : Type 0
  Finds = (v u : View) (made : List Record) → Acted v u step (Ok made) → FoundRow test records made

  one_row : (e : ℕ × Session) → test e ≡ true → All (λ x. test x ≡ true) (e ∷ [])
  one_row e passes zero d within = passes
  one_row e passes (suc k) d within = absurd (omega (arith, within))

  one_more : (count : ℕ) (v w u : View) (made : List Record) → EndsOnly test records count v w → FoundRow test records made → Acted w u step (Ok made) → EndsOnly test records (suc count) v u
  one_more count v w u made was row acted =
      let old = was.sessions in
      let all : flat_map records (old ++ row.row ∷ []) ≡ flat_map records old ++ made =
      flat_map-append records old (row.row ∷ []) ∙ ap (λ (l : List Record). flat_map records old ++ l) (append-nil (records row.row) ∙ sym row.made_is)
      in
      record {
        sessions = old ++ row.row ∷ [];
        each = length-append old (row.row ∷ []) ∙ omega (arith, was.each);
        due = All-append (λ e. test e ≡ true) old (row.row ∷ []) was.due (one_row row.row row.passes);
        grown = subst (Grown v u) (sym all) (grown_then v w u (flat_map records old) made was.grown (grown_acted w u step (Ok made) acted));
      }

  all_made : Finds → (made : List (List Record)) (s t : State B) → Accepted calls step made s t → EndsOnly test records (length made) s.view t.view
  all_made finds [] s t same = subst (λ (u : State B). EndsOnly test records 0 s.view u.view) (sym same) (record { sessions = []; each = refl; due = All-nil (λ e. test e ≡ true); grown = grown_self s.view })
  all_made finds (made ∷ before) s t one =
      one_more (length before) s.view one.between.view t.view made (all_made finds before s one.between one.before) (finds one.between.view t.view made one.acted) one.acted

  -- what the run recorded
  pub ends_only : Finds → (limit : ℕ) (swept : Swept) (s t : State B) → Sweeps calls step limit swept s t → EndsOnly test records swept.ended s.view t.view
  ends_only finds limit swept s t run =
      let so : EndsOnly test records swept.ended s.view run.last.view = subst (λ (n : ℕ). EndsOnly test records n s.view run.last.view) (sym run.count) (all_made finds run.made s run.last run.accepted) in
      elim swept.more as (λ more. Stops calls step limit swept.ended more run.last t → EndsOnly test records swept.ended s.view t.view) [
        | true ↦ λ stops. subst (λ (u : State B). EndsOnly test records swept.ended s.view u.view) (sym stops.1) so
        | false ↦ λ stops. record {
          sessions = so.sessions;
          each = so.each;
          due = so.due;
          grown = subst (Grown s.view t.view) (append-nil (flat_map records so.sessions)) (grown_then s.view run.last.view t.view (flat_map records so.sessions) [] so.grown (grown_acted run.last.view t.view step (Err NothingDue) stops.refused));
        }
      ] run.stops

  -- each refused step finds no row that passes
  abbrev pub FindsNone : Type 0
  FindsNone = (v u : View) → Acted v u step (Err NothingDue) → NoneLeft test (book_of u.seen)

  pub none_left : FindsNone → (limit : ℕ) (swept : Swept) (s t : State B) → Sweeps calls step limit swept s t → swept.more ≡ false → NoneLeft test (book_of t.view.seen)
  none_left finds limit swept s t run done =
      let stops : Stops calls step limit swept.ended false run.last t = subst (λ (more : Bool). Stops calls step limit swept.ended more run.last t) done run.stops in
      finds run.last.view t.view stops.refused
