use Rattle.std.proofs.Common.{◌≡◌, ◌+◌, ◌-◌, ◌^◌, ◌≤◌}
use Rattle.rtsp_record.specs.Choices.{count_of, from_on, is_pair_free}
use Rattle.rtsp_record.specs.Ports.{free_pairs}
use Rattle.rtsp_journal_text.proofs.book.free_pairs.Given as goal

abbrev pub invariant-loop-port : goal.invariant-loop-port
invariant-loop-port g l =
    let w = g.B.BookRep.whole_of l.book in
    let b = g.B.BookRep.contents l.book in
    record {
      counted : l.free + count_of 2 (from_on l.from (is_pair_free b)) w.first_port w.pairs ≡ free_pairs w b;
      within : l.from ≤ 2 ^ 16;
    }

abbrev pub decreases-loop-port : goal.decreases-loop-port
decreases-loop-port g l = 2 ^ 16 - l.from
