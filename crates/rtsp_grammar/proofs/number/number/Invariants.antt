use Rattle.std.proofs.Common.{◌≡◌, ◌≤◌, min, drop}
use Rattle.rtsp_grammar.specs.Number.{number_after}
use Rattle.rtsp_grammar.proofs.number.number.Given as goal

abbrev pub invariant-loop-digit : goal.invariant-loop-digit
invariant-loop-digit l = (l.value ≤ 100000) × (min (number_after l.value (drop l.digit-index l.digits)) 100000 ≡ min (number_after 0 l.digits) 100000)
