use Rattle.rtsp_metrics.proofs.Appended.{appended, appended_last}
use Rattle.rtsp_metrics.specs.Figures.{method_samples}
use Rattle.rtsp_metrics.proofs.families.write_answers.Goals as goal

pub returns : goal.returns
unfolding method_samples
returns c =
    appended c.write_request-4.result c.args.out.now.items _ _ _ _ c.in_ok-write_request.ensures
    (appended c.write_request-4.result c.write_request.new.out.items _ _ _ _ c.in_ok-write_request-2.ensures
    (appended c.write_request-4.result c.write_request-2.new.out.items _ _ _ _ c.in_ok-write_request-3.ensures
    (appended_last c.write_request-4.result c.write_request-3.new.out.items _ _ c.write_request-4.ensures)))
