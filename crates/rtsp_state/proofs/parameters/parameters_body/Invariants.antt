use Rattle.std.proofs.Common.{◌≡◌, take}
use Rattle.std.specs.List.{flat_map}
use Rattle.rtsp_state.specs.GetParameter.{parameter_line}
use Rattle.rtsp_state.proofs.parameters.parameters_body.Given as goal

abbrev pub invariant-loop-name : goal.invariant-loop-name
invariant-loop-name l = l.body.items ≡ flat_map (parameter_line l.timing l.at) (take l.name-index l.names)
