use Rattle.rtsp_state.proofs.ParameterLemmas.{LineOn}
use Rattle.rtsp_state.proofs.parameters.first_line.Given as goal

abbrev pub invariant-loop-index : goal.invariant-loop-index
invariant-loop-index l = LineOn l.text l.index
