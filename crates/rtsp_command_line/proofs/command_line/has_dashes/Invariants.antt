use Rattle.std.proofs.Common.{◌≡◌, map, drop}
use Rattle.rtsp_command_line.specs.CommandLine.{has_dashes}
use Rattle.rtsp_command_line.proofs.command_line.has_dashes.Given as goal

abbrev pub invariant-loop-word : goal.invariant-loop-word
invariant-loop-word l = has_dashes (map (λ w. w.now) l.words) ≡ has_dashes (map (λ w. w.now) (drop l.word-index l.words))
