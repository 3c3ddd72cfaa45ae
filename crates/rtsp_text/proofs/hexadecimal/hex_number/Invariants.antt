use Rattle.std.proofs.Common.{◌≡◌, ◌<◌, ◌^◌, take}
use Rattle.rtsp_text.specs.Hexadecimal.{hex_text}
use Rattle.rtsp_text.proofs.hexadecimal.hex_number.Given as goal

-- what is read so far is the digits of the number
abbrev pub invariant-loop-byte : goal.invariant-loop-byte
invariant-loop-byte l = record { digits : hex_text l.byte-index l.number ≡ take l.byte-index l.text; fits : l.number < 16 ^ l.byte-index }
