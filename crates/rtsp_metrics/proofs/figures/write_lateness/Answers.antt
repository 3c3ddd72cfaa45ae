use Rattle.rtsp_metrics.specs.Figures.{lateness_family}
use Rattle.rtsp_metrics.proofs.figures.write_lateness.Goals as goal

pub returns : goal.returns
unfolding lateness_family
returns c =
    simp (c.from-one.ensures, c.from.ensures, c.from-2.ensures, c.from-3.ensures, c.from-4.ensures, c.from-5.ensures, c.from-6.ensures, c.from-7.ensures, c.from-8.ensures, c.from-9.ensures, c.from-10.ensures, c.from-11.ensures) at c.write_family.ensures
