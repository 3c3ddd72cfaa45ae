use Rattle.std.proofs.Common.{sym, ap, ◌∙◌, ℕ, slice_get}
use Rattle.std.specs.FinMap.{entries}
use Rattle.rtsp_record.specs.declared.holdings.Admission.{Admission}
use Rattle.rtsp_record.specs.Tables.{Table}
use Rattle.rtsp_state.proofs.ListLemmas.{kept_more, left_more}
use Rattle.rtsp_state.proofs.context.streams_of.Goals as goal
use Rattle.rtsp_state.proofs.context.streams_of.Goals.{in-Some+in_ok-push, in_default}

pub loop-index-preserved : goal.loop-index-preserved
loop-index-preserved c =
    let at = ap (λ (a : Table Admission). slice_get (entries a) c.loop-index.index) (sym c.admissions-in-loop-index.ensures) ∙ c.at.ensures in
    elim c.match-held.branch [
      | in-Some+in_ok-push w ↦ rw w.streams-is (kept_more (λ (e : ℕ × Admission). e.1.stream) (entries c.args.view.now.1.admissions) c.loop-index.index _ _ c.loop-index.streams.items _ c.loop-index.invariant at w.in-Some.is w.in_ok-push.ensures.items)
      | in_default w ↦ rw w.streams-is (left_more (λ (e : ℕ × Admission). e.1.stream) (entries c.args.view.now.1.admissions) c.loop-index.index _ c.loop-index.streams.items c.loop-index.invariant at w.in_default.is)
    ]
