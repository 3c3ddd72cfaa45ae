use Rattle.std.proofs.Common.{◌≡◌, sym, ap, ◌∙◌, refl, true, ℕ, List, ◌∷◌, Some, None, slice_get, eq-eqb}
use Rattle.std.proofs.lemmas.Bool.{ne_eqb}
use Rattle.std.specs.FinMap.{entries}
use Rattle.rtsp_record.specs.declared.holdings.Admission.{Admission}
use Rattle.rtsp_record.specs.declared.streams.Stream.{Stream}
use Rattle.rtsp_record.specs.Tables.{Table}
use Rattle.rtsp_state.specs.Context.{is_other}
use Rattle.rtsp_state.proofs.ListLemmas.{kept_from}
use Rattle.rtsp_state.proofs.context.is_other.Goals as goal
use Rattle.rtsp_state.proofs.context.is_other.Goals.{in-Some+else-stream-presentation, in_default}

is_other_at : (p : ℕ) (s : Stream) (others : List Stream) → (s.presentation ≡ p → ⊥) → is_other p (s ∷ others) ≡ true
is_other_at p s others ne = rw (ne_eqb s.presentation p ne) refl

same_at : (p : ℕ) (s : Stream) (others : List Stream) → s.presentation ≡ p → is_other p (s ∷ others) ≡ is_other p others
same_at p s others e = rw (eq-eqb s.presentation p e) refl

pub returns-then-stream-presentation : goal.returns-then-stream-presentation
returns-then-stream-presentation c =
    let p = c.args.presentation in
    let at = ap (λ (a : Table Admission). slice_get (entries a) c.loop-index.index) (sym c.admissions-in-loop-index.ensures) ∙ c.at.ensures in
    let kept = kept_from (λ (e : ℕ × Admission). e.1.stream) (entries c.args.view.now.1.admissions) c.loop-index.index _ (Some c.in-Some.stream) at c.in-Some.is in
    sym (is_other_at p c.in-Some.stream _ c.if-stream-presentation.true) ∙ (sym (ap (is_other p) kept) ∙ c.loop-index.invariant)

pub loop-index-preserved : goal.loop-index-preserved
loop-index-preserved c =
    let p = c.args.presentation in
    let stream = λ (e : ℕ × Admission). e.1.stream in
    let at = ap (λ (a : Table Admission). slice_get (entries a) c.loop-index.index) (sym c.admissions-in-loop-index.ensures) ∙ c.at.ensures in
    elim c.match-held.branch [
      | in-Some+else-stream-presentation w ↦
          sym (ap (is_other p) (kept_from stream (entries c.args.view.now.1.admissions) c.loop-index.index _ (Some w.in-Some.stream) at w.in-Some.is) ∙ same_at p w.in-Some.stream _ w.if-stream-presentation.false) ∙ c.loop-index.invariant
      | in_default w ↦
          sym (ap (is_other p) (kept_from stream (entries c.args.view.now.1.admissions) c.loop-index.index _ None at w.in_default.is)) ∙ c.loop-index.invariant
    ]
