use Rattle.std.proofs.Common.{sym, ap, ◌∙◌, ◌==◌, not, length, ℕ, List, slice_get}
use Rattle.std.specs.FinMap.{entries}
use Rattle.rtsp_record.specs.declared.holdings.Admission.{Admission}
use Rattle.rtsp_record.specs.declared.streams.Stream.{Stream}
use Rattle.rtsp_record.specs.Tables.{Table}
use Rattle.rtsp_state.proofs.ListLemmas.{some_from, none_from}
use Rattle.rtsp_state.proofs.context.has_streams.Goals as goal

pub returns-then-is_some : goal.returns-then-is_some
returns-then-is_some c =
    let at = ap (λ (a : Table Admission). slice_get (entries a) c.loop-index.index) (sym c.admissions-in-loop-index.ensures) ∙ c.at.ensures in
    let some = some_from (λ (e : ℕ × Admission). e.1.stream) (entries c.args.view.now.1.admissions) c.loop-index.index _ at (sym c.is_some.ensures ∙ c.if-is_some.true) in
    sym some ∙ ap (λ (l : List Stream). not (length l == 0)) c.loop-index.invariant

pub loop-index-preserved : goal.loop-index-preserved
loop-index-preserved c =
    let at = ap (λ (a : Table Admission). slice_get (entries a) c.loop-index.index) (sym c.admissions-in-loop-index.ensures) ∙ c.at.ensures in
    sym (none_from (λ (e : ℕ × Admission). e.1.stream) (entries c.args.view.now.1.admissions) c.loop-index.index _ at (sym c.is_some.ensures ∙ c.if-is_some.false)) ∙ c.loop-index.invariant
