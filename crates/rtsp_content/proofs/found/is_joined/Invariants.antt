use Rattle.std.proofs.Common.{◌≡◌, drop, bytes_eq}
use Rattle.std.specs.List.{flat_map}
use Rattle.rtsp_content.proofs.found.is_joined.Given as goal

abbrev pub invariant-loop-piece : goal.invariant-loop-piece
invariant-loop-piece l = bytes_eq l.text (flat_map (λ p. p.now) l.pieces) ≡ bytes_eq l.rest (flat_map (λ p. p.now) (drop l.piece-index l.pieces))
