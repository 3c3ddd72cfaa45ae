use Rattle.std.proofs.Common.{◌≡◌, take}
use Rattle.rtsp_text.specs.Slices.{texts}
use Rattle.rtsp_state.specs.Values.{unknown_tags}
use Rattle.rtsp_state.proofs.values.unknown_tags.Given as goal

abbrev pub invariant-loop-tag : goal.invariant-loop-tag
invariant-loop-tag l = texts l.unknown.items ≡ unknown_tags (take l.tag-index l.tags)
