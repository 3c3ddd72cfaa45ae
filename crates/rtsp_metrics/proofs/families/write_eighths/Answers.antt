use Rattle.std.proofs.Common.{append_assoc}
use Rattle.rtsp_metrics.specs.Families.{sample_line}
use Rattle.rtsp_metrics.proofs.families.write_eighths.Goals as goal

pub returns : goal.returns
unfolding sample_line
returns c =
    simp append_assoc (simp (c.as_bytes.ensures.value, c.format-bytes.ensures.text, c.three_digits-decimals.ensures) at c.append_all.ensures.ok)
