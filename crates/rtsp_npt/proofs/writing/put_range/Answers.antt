use Rattle.std.specs.Prelude.{codes}
use Rattle.rtsp_npt.specs.Printed.{time_text}
use Rattle.rtsp_text.proofs.AppendLemmas.{appends_four}
use Rattle.rtsp_npt.proofs.writing.put_range.Goals as goal

pub returns-clause-text : goal.returns-clause-text
returns-clause-text c =
    appends_four c.put_time-2.result c.args.out.now.items c.extend_from_slice.new.self.items c.put_time.new.out.items c.push.new.self.items c.put_time-2.new.out.items
    (codes "npt=") (time_text c.args.from c.args.unit_ms) (codes "-") (time_text c.args.stop c.args.unit_ms)
    c.in_ok-extend_from_slice.ensures.items c.in_ok-put_time.ensures.text c.in_ok-push.ensures.items c.put_time-2.ensures.text
