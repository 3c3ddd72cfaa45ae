use Rattle.std.proofs.Common.{◌≡◌, true, take}
use Rattle.std.specs.List.{list_all}
use Rattle.rtsp_text.specs.Bytes.{is_token_byte}
use Rattle.rtsp_grammar.proofs.words.token_len.Given as goal

abbrev pub invariant-loop-i : goal.invariant-loop-i
invariant-loop-i l = list_all is_token_byte (take l.i l.text) ≡ true
