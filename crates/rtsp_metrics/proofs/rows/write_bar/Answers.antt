use Rattle.rtsp_metrics.specs.Page.{bar_row}
use Rattle.rtsp_metrics.proofs.rows.write_bar.Goals as goal

pub returns : goal.returns
unfolding bar_row
returns c =
    simp (c.as_bytes.ensures.value, c.as_bytes-2.ensures.value, c.format-max.ensures.text, c.format-value.ensures.text, c.deref.ensures.value, c.deref-2.ensures.value, c.in_ok-part.ensures, c.in_ok-whole.ensures) at c.append_all.ensures.ok
