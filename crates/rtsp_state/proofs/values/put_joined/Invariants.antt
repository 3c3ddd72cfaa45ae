use Rattle.std.proofs.Common.{◌≡◌, ◌++◌, take}
use Rattle.std.specs.List.{flat_map}
use Rattle.rtsp_text.specs.Slices.{texts}
use Rattle.rtsp_state.specs.Values.{behind_comma}
use Rattle.rtsp_state.proofs.values.put_joined.Given as goal

abbrev pub invariant-loop-part : goal.invariant-loop-part
invariant-loop-part l = l.out.items ≡ l.initial.out.items ++ flat_map behind_comma (texts (take l.part-index l.others))
