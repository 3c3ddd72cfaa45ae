use Rattle.std.proofs.Common.{◌≡◌, ◌+◌, ◌-◌, ◌*◌, vec_len}
use Rattle.std.specs.Prelude.{min}
use Rattle.rtsp_sockets.proofs.media.MediaOf.readers.Given as goal

abbrev pub invariant-loop-index : goal.invariant-loop-index
invariant-loop-index g l = vec_len l.readers ≡ 4 * (min l.index l.index-end - l.first)

abbrev pub invariant-loop-place : goal.invariant-loop-place
invariant-loop-place g l = vec_len l.readers ≡ 4 * (min l.index l.index-end - l.first) + l.place
