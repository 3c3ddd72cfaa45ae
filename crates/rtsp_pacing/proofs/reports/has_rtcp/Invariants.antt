use Rattle.std.proofs.Common.{◌≡◌, drop}
use Rattle.std.specs.List.{list_any}
use Rattle.std.specs.FinMap.{entries}
use Rattle.rtsp_pacing.specs.Reports.{is_rtcp_under}
use Rattle.rtsp_pacing.proofs.reports.has_rtcp.Given as goal

abbrev pub invariant-loop-place : goal.invariant-loop-place
invariant-loop-place l =
    list_any (is_rtcp_under l.report) (drop l.place (entries l.view.1.admissions)) ≡ list_any (is_rtcp_under l.report) (entries l.view.1.admissions)
