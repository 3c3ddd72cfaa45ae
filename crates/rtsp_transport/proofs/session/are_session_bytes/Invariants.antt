use Rattle.std.proofs.Common.{◌≡◌, take}
use Rattle.std.specs.List.{list_all}
use Rattle.rtsp_transport.specs.Session.{is_session_byte}
use Rattle.rtsp_transport.proofs.session.are_session_bytes.Given as goal

abbrev pub invariant-loop-byte : goal.invariant-loop-byte
invariant-loop-byte l = l.are ≡ list_all is_session_byte (take l.byte-index l.text)
