use Rattle.std.proofs.Common.{◌≡◌, ◌≤◌, length}
use Rattle.std.specs.VecDeque.{deque_capacity}
use Rattle.rtsp_roster.specs.Lines.{IsLine}
use Rattle.rtsp_roster.proofs.line.Line.make_room.Given as goal

abbrev pub invariant-loop-count : goal.invariant-loop-count
invariant-loop-count l =
    IsLine l.self-inside.keys.items l.self-inside.holds.items
    × (l.self-inside.keys ≡ l.initial.self-inside.keys)
    × (length l.self-inside.holds.items ≡ l._count)
    × (length l.self-inside.holds.items ≤ deque_capacity l.self-inside.keys)
