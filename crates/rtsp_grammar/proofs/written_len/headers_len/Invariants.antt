use Rattle.std.proofs.Common.{◌≡◌, ◌≤◌, ◌+◌, ◌-◌, ◌^◌, min, length, drop}
use Rattle.rtsp_grammar.specs.Writing.{headers_text}
use Rattle.rtsp_grammar.proofs.written_len.headers_len.Given as goal

abbrev pub invariant-loop-index : goal.invariant-loop-index
invariant-loop-index l = (l.total ≤ 2 ^ 64 - 1) × (min (l.total + length (headers_text (drop l.index l.headers))) (2 ^ 64 - 1) ≡ min (length (headers_text l.headers)) (2 ^ 64 - 1))
