use Rattle.std.proofs.Common.{◌≡◌, ◌≤◌, ◌++◌, drop, length}
use Rattle.rtsp_rtp.specs.Pacing.{sources_from}
use Rattle.rtsp_rtp.proofs.sources.Sources.of.Given as goal

abbrev pub invariant-loop-index : goal.invariant-loop-index
invariant-loop-index l =
    (l.sources ++ sources_from l.view.1 l.index (drop l.index l.presentation.tracks) ≡ sources_from l.view.1 0 l.presentation.tracks)
    × (length l.sources ≤ l.index)
