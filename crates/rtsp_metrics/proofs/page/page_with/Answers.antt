use Rattle.rtsp_metrics.specs.Page.{page_text}
use Rattle.rtsp_metrics.proofs.page.page_with.Goals as goal

pub returns : goal.returns
unfolding page_text
returns c =
    simp (c.deref.ensures.value, c.deref-2.ensures.value, c.deref-3.ensures.value, c.deref-4.ensures.value, c.deref-5.ensures.value, c.in_ok-server.ensures, c.in_ok-requests.ensures, c.in_ok-refusals.ensures, c.in_ok-lateness.ensures, c.in_ok-counts.ensures, c.new-text.ensures.items) at c.in_ok-append_all.ensures.ok
