use Rattle.std.proofs.Common.{◌≡◌, drop, option_map}
use Rattle.rtsp_grammar.specs.Header.{values_of}
use Rattle.std.specs.List.{cons_option}
use Rattle.rtsp_grammar.proofs.header.Headers.only_value.Given as goal

abbrev pub invariant-loop-index : goal.invariant-loop-index
invariant-loop-index l = cons_option (option_map (λ v. v.now) l.found) (values_of l.name (drop l.index l.self)) ≡ values_of l.name l.self
