use Rattle.rtsp_metrics.proofs.page.server_section.Goals as goal

pub returns : goal.returns
returns c =
    simp (c.journal.ensures, c.journal-2.ensures, c.from.ensures, c.from-2.ensures) at c.section.ensures
