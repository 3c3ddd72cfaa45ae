use Rattle.std.proofs.Common.{append_assoc}
use Rattle.rtsp_metrics.proofs.Appended.{append_nil, sample_lines-append}
use Rattle.rtsp_metrics.specs.Figures.{requests_family}
use Rattle.rtsp_metrics.proofs.figures.write_requests.Goals as goal

pub returns : goal.returns
unfolding requests_family
returns c = simp (sample_lines-append, append_assoc) (simp append_nil at c.write_family.ensures)
