use Rattle.std.proofs.Common.{◌∙◌, ap, sym, slice_get}
use Rattle.std.specs.FinMap.{entries}
use Rattle.rtsp_record.specs.declared.holdings.Admission.{Admission}
use Rattle.rtsp_record.specs.Tables.{Table}
use Rattle.rtsp_pacing.specs.Reports.{is_rtcp_under}
use Rattle.rtsp_pacing.proofs.Listing.{any_here, any_behind}
use Rattle.rtsp_pacing.proofs.reports.has_rtcp.Goals as goal

pub returns-then-is_rtcp_of : goal.returns-then-is_rtcp_of
returns-then-is_rtcp_of c =
    let at = ap (λ (a : Table Admission). slice_get (entries a) c.loop-place.place) (sym c.admissions-admissions.ensures) ∙ c.at.ensures in
    any_here (is_rtcp_under c.args.report) (entries c.args.view.now.1.admissions) c.loop-place.place _ at (sym c.is_rtcp_of.ensures ∙ c.if-is_rtcp_of.true) c.loop-place.invariant

pub loop-place-preserved : goal.loop-place-preserved
loop-place-preserved c =
    let at = ap (λ (a : Table Admission). slice_get (entries a) c.loop-place.place) (sym c.admissions-admissions.ensures) ∙ c.at.ensures in
    any_behind (is_rtcp_under c.args.report) (entries c.args.view.now.1.admissions) c.loop-place.place _ at (sym c.is_rtcp_of.ensures ∙ c.if-is_rtcp_of.false) c.loop-place.invariant
