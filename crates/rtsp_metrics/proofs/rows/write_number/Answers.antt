use Rattle.rtsp_metrics.specs.Page.{number_row}
use Rattle.rtsp_metrics.proofs.rows.write_number.Goals as goal

pub returns : goal.returns
unfolding number_row
returns c =
    simp (c.deref.ensures.value, c.in_ok-number.ensures, c.from.ensures) at c.append_all.ensures.ok
