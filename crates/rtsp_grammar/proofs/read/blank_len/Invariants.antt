use Rattle.std.proofs.Common.{length, ◌-◌}
use Rattle.rtsp_grammar.specs.Item.{IsBlank}
use Rattle.rtsp_grammar.proofs.read.blank_len.Given as goal

abbrev pub invariant-blank : goal.invariant-blank
invariant-blank l = IsBlank l.bytes l.at

abbrev pub decreases-blank : goal.decreases-blank
decreases-blank l = length l.bytes - l.at
