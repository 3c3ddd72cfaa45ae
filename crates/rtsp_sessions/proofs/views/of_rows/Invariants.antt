use Rattle.std.proofs.Common.{◌≡◌, ℕ, ◌+◌, ◌*◌, ◌^◌, ◌≤◌, drop}
use Rattle.std.specs.Prelude.{sum_by}
use Rattle.rtsp_record.specs.declared.holdings.Admission.{Admission}
use Rattle.rtsp_record.specs.Sums.{of_admission}
use Rattle.rtsp_sessions.specs.Measures.{measure_of}
use Rattle.rtsp_sessions.proofs.views.of_rows.Given as goal

abbrev pub invariant-loop-row : goal.invariant-loop-row
invariant-loop-row l =
    record {
      told : l.total + sum_by (λ (e : ℕ × Admission). of_admission (measure_of l.measure) e.1) (drop l.row-index l.rows) ≡ sum_by (λ e. of_admission (measure_of l.measure) e.1) l.rows;
      small : l.total ≤ 2 ^ 65 * l.row-index;
    }
