use Rattle.rtsp_metrics.proofs.Appended.{appended, appended_last}
use Rattle.rtsp_metrics.specs.Figures.{server_families}
use Rattle.rtsp_metrics.proofs.figures.write_server.Goals as goal

pub returns : goal.returns
unfolding server_families
returns c =
    appended c.write_held.result c.args.out.now.items _ _ _ _ c.in_ok-write_gauge.ensures
    (appended_last c.write_held.result c.write_gauge.new.out.items _ _ c.write_held.ensures)
