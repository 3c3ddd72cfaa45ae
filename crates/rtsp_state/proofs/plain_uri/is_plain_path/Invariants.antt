use Rattle.std.proofs.Common.{◌≡◌, drop}
use Rattle.rtsp_state.specs.PlainUri.{is_plain_after}
use Rattle.rtsp_state.proofs.plain_uri.is_plain_path.Given as goal

abbrev pub invariant-loop-byte : goal.invariant-loop-byte
invariant-loop-byte l = is_plain_after l.before (drop l.byte-index l.rest) ≡ is_plain_after 47 l.rest
