use Rattle.rtsp_metrics.proofs.Appended.{appended_families}
use Rattle.rtsp_metrics.specs.Figures.{server_families, book_families, traffic_families, answer_families}
use Rattle.rtsp_metrics.proofs.figures.write_families.Goals as goal

pub returns : goal.returns
returns c =
    appended_families c.write_keeping.result c.args.out.now.items _ _ (server_families c.args.of.now) _ c.in_ok-write_server.ensures
    (appended_families c.write_keeping.result c.write_server.new.out.items _ _ (book_families c.args.of.now.book) _ c.in_ok-write_book.ensures
    (appended_families c.write_keeping.result c.write_book.new.out.items _ _ (traffic_families c.args.of.now.counts) _ c.in_ok-write_traffic.ensures
    (appended_families c.write_keeping.result c.write_traffic.new.out.items _ _ (answer_families c.args.of.now.counts) _ c.in_ok-write_answers.ensures
    (c.write_keeping.ensures))))
