use Rattle.std.proofs.Common.{◌≡◌, ◌+◌, ℕ, ◌≤◌, drop}
use Rattle.std.specs.Prelude.{sum_by}
use Rattle.std.specs.FinMap.{entries}
use Rattle.rtsp_record.specs.declared.holdings.Admission.{Admission}
use Rattle.rtsp_record.specs.Sums.{of_admission, of_session}
use Rattle.rtsp_record.specs.Ports.{pairs, singles}
use Rattle.rtsp_journal_text.proofs.book.sessions.held_by.Given as goal

abbrev pub invariant-loop-index : goal.invariant-loop-index
invariant-loop-index l = record {
  paired : l.pairs + sum_by (λ (e : ℕ × Admission). of_admission pairs e.1) (drop l.index (entries l.admissions)) ≡ of_session pairs l.view.1;
  single : l.singles + sum_by (λ (e : ℕ × Admission). of_admission singles e.1) (drop l.index (entries l.admissions)) ≡ of_session singles l.view.1;
  small : l.pairs + l.singles ≤ l.index;
}
