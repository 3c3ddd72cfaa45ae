use Rattle.std.proofs.Common.{sym, ap, ◌∙◌, ℕ, Some, None, slice_get}
use Rattle.std.specs.FinMap.{entries}
use Rattle.rtsp_record.specs.declared.holdings.Admission.{Admission}
use Rattle.rtsp_record.specs.Tables.{Table}
use Rattle.rtsp_state.specs.Aim.{first_place}
use Rattle.rtsp_state.proofs.ListLemmas.{kept_from}
use Rattle.rtsp_state.proofs.aim.first_place.Goals as goal

pub returns-in-Some : goal.returns-in-Some
returns-in-Some c =
    let at = ap (λ (a : Table Admission). slice_get (entries a) c.loop-index.index) (sym c.admissions-in-loop-index.ensures) ∙ c.at.ensures in
    let kept = kept_from (λ (e : ℕ × Admission). e.1.stream) (entries c.args.view.now.1.admissions) c.loop-index.index _ (Some c.in-Some.stream) at c.in-Some.is in
    sym (ap first_place kept) ∙ ap first_place c.loop-index.invariant

pub loop-index-preserved : goal.loop-index-preserved
loop-index-preserved c =
    let at = ap (λ (a : Table Admission). slice_get (entries a) c.loop-index.index) (sym c.admissions-in-loop-index.ensures) ∙ c.at.ensures in
    sym (kept_from (λ (e : ℕ × Admission). e.1.stream) (entries c.args.view.now.1.admissions) c.loop-index.index _ None at c.in_default.is) ∙ c.loop-index.invariant
