use Rattle.std.proofs.Common.{◌≡◌, drop}
use Rattle.std.specs.Prelude.{filter_map}
use Rattle.std.specs.FinMap.{entries}
use Rattle.rtsp_state.specs.Context.{streams_of}
use Rattle.rtsp_state.proofs.aim.first_place.Given as goal

abbrev pub invariant-loop-index : goal.invariant-loop-index
invariant-loop-index l = filter_map (λ e. e.1.stream) (drop l.index (entries l.view.1.admissions)) ≡ streams_of l.view.1
