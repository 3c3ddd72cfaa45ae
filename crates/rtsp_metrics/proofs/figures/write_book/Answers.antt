use Rattle.rtsp_metrics.proofs.Appended.{appended, appended_last}
use Rattle.rtsp_metrics.specs.Figures.{book_families}
use Rattle.rtsp_metrics.proofs.figures.write_book.Goals as goal

pub returns : goal.returns
unfolding book_families
returns c =
    appended c.write_journal.result c.args.out.now.items _ _ _ _ c.in_ok-write_gauge.ensures
    (appended c.write_journal.result c.write_gauge.new.out.items _ _ _ _ c.in_ok-write_uplink.ensures
    (appended c.write_journal.result c.write_uplink.new.out.items _ _ _ _ c.in_ok-write_held.ensures
    (appended c.write_journal.result c.write_held.new.out.items _ _ _ _ c.in_ok-write_held-2.ensures
    (appended_last c.write_journal.result c.write_held-2.new.out.items _ _ c.write_journal.ensures))))
