use Rattle.std.proofs.Common.{◌≡◌, drop}
use Rattle.std.specs.Prelude.{filter_map}
use Rattle.std.specs.FinMap.{entries}
use Rattle.rtsp_state.specs.Context.{is_other, streams_of}
use Rattle.rtsp_state.proofs.context.is_other.Given as goal

-- those before are not of another presentation
abbrev pub invariant-loop-index : goal.invariant-loop-index
invariant-loop-index l =
    is_other l.presentation (filter_map (λ e. e.1.stream) (drop l.index (entries l.view.1.admissions))) ≡ is_other l.presentation (streams_of l.view.1)
