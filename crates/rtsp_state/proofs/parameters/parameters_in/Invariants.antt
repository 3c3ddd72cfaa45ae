use Rattle.std.proofs.Common.{◌≡◌, ◌-◌}
use Rattle.rtsp_state.specs.GetParameter.{parameters_in}
use Rattle.rtsp_state.proofs.ParameterLemmas.{onto}
use Rattle.rtsp_state.proofs.parameters.parameters_in.Given as goal

abbrev pub invariant-loop-count : goal.invariant-loop-count
invariant-loop-count l = onto l.found.items (parameters_in (64 - l.count) l.rest) ≡ parameters_in 64 l.body
