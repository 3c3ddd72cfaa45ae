use Rattle.std.proofs.Common.{◌≡◌, drop, slice_get}
use Rattle.rtsp_grammar.specs.Header.{values_of}
use Rattle.rtsp_grammar.proofs.header.Headers.nth_value.Given as goal

abbrev pub invariant-loop-index : goal.invariant-loop-index
invariant-loop-index l = slice_get (values_of l.name (drop l.index l.self)) l.left ≡ slice_get (values_of l.name l.self) l.before
