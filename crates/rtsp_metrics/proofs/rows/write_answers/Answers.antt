use Rattle.rtsp_metrics.specs.Page.{answers_row}
use Rattle.rtsp_metrics.proofs.rows.write_answers.Goals as goal

pub returns : goal.returns
unfolding answers_row
returns c =
    simp (c.deref.ensures.value, c.deref-2.ensures.value, c.deref-3.ensures.value, c.deref-4.ensures.value, c.in_ok-success.ensures, c.in_ok-redirection.ensures, c.in_ok-client_error.ensures, c.in_ok-server_error.ensures, c.from.ensures, c.from-2.ensures, c.from-3.ensures, c.from-4.ensures) at c.append_all.ensures.ok
