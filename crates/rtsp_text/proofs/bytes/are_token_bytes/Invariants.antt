use Rattle.std.proofs.Common.{◌≡◌, take}
use Rattle.std.specs.List.{list_all}
use Rattle.rtsp_text.specs.Bytes.{is_token_byte}
use Rattle.rtsp_text.proofs.bytes.are_token_bytes.Given as goal

abbrev pub invariant-loop-byte : goal.invariant-loop-byte
invariant-loop-byte l = l.are ≡ list_all is_token_byte (take l.byte-index l.text)
