use Rattle.std.proofs.Common.{◌≡◌, ◌≤◌, take, length}
use Rattle.std.specs.Prelude.{filter_map}
use Rattle.rtsp_book.specs.Receipts.{freed_as}
use Rattle.rtsp_book.proofs.receipts.freed_in.Given as goal

abbrev pub invariant-loop-change : goal.invariant-loop-change
invariant-loop-change l =
    record {
      found : l.freed ≡ filter_map (freed_as l.ports) (take l.change-index l.changes);
      few : length l.freed ≤ l.change-index;
    }
