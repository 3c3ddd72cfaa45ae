use Rattle.rtsp_metrics.specs.Page.{section_text}
use Rattle.rtsp_metrics.proofs.rows.section.Goals as goal

pub returns : goal.returns
unfolding section_text
returns c =
    simp (c.deref.ensures.value, c.in_ok-write_rows.ensures, c.new-lines.ensures.items, c.new-text.ensures.items) at c.in_ok-append_all.ensures.ok
