use Rattle.std.proofs.Common.{◌≡◌, take}
use Rattle.std.specs.Prelude.{filter_map}
use Rattle.std.specs.FinMap.{entries}
use Rattle.rtsp_state.proofs.context.streams_of.Given as goal

abbrev pub invariant-loop-index : goal.invariant-loop-index
invariant-loop-index l = l.streams.items ≡ filter_map (λ e. e.1.stream) (take l.index (entries l.view.1.admissions))
