use Rattle.rtsp_metrics.proofs.Appended.{appended, appended_last}
use Rattle.rtsp_metrics.specs.Figures.{traffic_families}
use Rattle.rtsp_metrics.proofs.figures.write_traffic.Goals as goal

pub returns : goal.returns
unfolding traffic_families
returns c =
    appended c.write_counter-5.result c.args.out.now.items _ _ _ _ c.in_ok-write_counter.ensures
    (appended c.write_counter-5.result c.write_counter.new.out.items _ _ _ _ c.in_ok-write_counter-2.ensures
    (appended c.write_counter-5.result c.write_counter-2.new.out.items _ _ _ _ c.in_ok-write_counter-3.ensures
    (appended c.write_counter-5.result c.write_counter-3.new.out.items _ _ _ _ c.in_ok-write_counter-4.ensures
    (appended_last c.write_counter-5.result c.write_counter-4.new.out.items _ _ c.write_counter-5.ensures))))
