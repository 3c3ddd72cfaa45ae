use Rattle.rtsp_metrics.proofs.Appended.{appended, appended_last}
use Rattle.rtsp_metrics.proofs.figures.write_answers.Goals as goal

pub returns : goal.returns
returns c =
    appended c.write_lateness.result c.args.out.now.items _ _ _ _ c.in_ok-write_requests.ensures
    (appended c.write_lateness.result c.write_requests.new.out.items _ _ _ _ c.in_ok-write_refusals.ensures
    (appended_last c.write_lateness.result c.write_refusals.new.out.items _ _ c.write_lateness.ensures))
