use Rattle.std.proofs.Common.{◌≡◌, ◌+◌, ◌≤◌, length, drop}
use Rattle.rtsp_grammar.specs.Header.{values_of}
use Rattle.rtsp_grammar.proofs.header.Headers.count_of.Given as goal

abbrev pub invariant-loop-index : goal.invariant-loop-index
invariant-loop-index l = (l.count ≤ l.index) × (l.count + length (values_of l.name (drop l.index l.self)) ≡ length (values_of l.name l.self))
