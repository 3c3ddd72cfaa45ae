use Rattle.std.proofs.Common.{◌≡◌, true, take}
use Rattle.std.specs.List.{list_all}
use Rattle.rtsp_state.specs.PlainUri.{is_host_byte}
use Rattle.rtsp_state.proofs.plain_uri.host_length.Given as goal

abbrev pub invariant-loop-i : goal.invariant-loop-i
invariant-loop-i l = list_all is_host_byte (take l.i l.text) ≡ true
