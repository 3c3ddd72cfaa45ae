use Rattle.std.proofs.Common.{◌≡◌, take}
use Rattle.rtsp_grammar.specs.Header.{values_of}
use Rattle.rtsp_text.specs.Slices.{texts}
use Rattle.rtsp_state.proofs.values.values_of.Given as goal

abbrev pub invariant-loop-index : goal.invariant-loop-index
invariant-loop-index l = texts l.values.items ≡ take l.index (values_of l.name l.headers)
