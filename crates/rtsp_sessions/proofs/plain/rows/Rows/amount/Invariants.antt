use Rattle.std.proofs.Common.{◌≡◌, ℕ, ◌+◌, ◌*◌, ◌^◌, ◌≤◌, drop}
use Rattle.std.specs.Prelude.{sum_by}
use Rattle.rtsp_record.specs.Books.{Session}
use Rattle.rtsp_record.specs.Sums.{of_session, amount}
use Rattle.rtsp_sessions.specs.Measures.{measure_of}
use Rattle.rtsp_sessions.proofs.plain.rows.Rows.amount.Given as goal

abbrev pub invariant-loop-row : goal.invariant-loop-row
invariant-loop-row l =
    record {
      told : l.total + sum_by (λ (e : ℕ × Session). of_session (measure_of l.measure) e.1) (drop l.row-index l.row-items) ≡ amount (measure_of l.measure) l.self;
      small : l.total ≤ 2 ^ 70 * l.row-index;
    }
