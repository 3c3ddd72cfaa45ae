use Rattle.std.proofs.Common.{◌≡◌, ◌++◌, ◌≤◌, take, length, vec_capacity}
use Rattle.std.specs.List.{flat_map}
use Rattle.rtsp_text.proofs.append.append_all.Given as goal

abbrev pub invariant-loop-piece : goal.invariant-loop-piece
invariant-loop-piece l = record {
  written : l.out.items ≡ l.initial.out.items ++ flat_map (λ p. p.now) (take l.piece-index l.pieces);
  capacity : vec_capacity l.initial.out ≤ vec_capacity l.out;
  start : l.start ≡ length l.initial.out.items;
}
