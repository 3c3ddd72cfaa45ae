use Rattle.std.proofs.Common.{◌≡◌, true, take}
use Rattle.std.specs.List.{list_all}
use Rattle.rtsp_grammar.specs.Bytes.{is_uri_byte}
use Rattle.rtsp_grammar.proofs.words.uri_len.Given as goal

abbrev pub invariant-loop-i : goal.invariant-loop-i
invariant-loop-i l = list_all is_uri_byte (take l.i l.text) ≡ true
