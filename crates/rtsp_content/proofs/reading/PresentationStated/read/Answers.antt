use Rattle.std.proofs.Common.{rules}
use Rattle.rtsp_content.specs.Sdp.{sdp_of}
use Rattle.rtsp_content.proofs.reading.PresentationStated.read.Goals as goal

pub invariant_of-result : goal.invariant_of-result
unfolding sdp_of
invariant_of-result c =
    (search rules, search rules, simp (c.as_str-2.ensures.value, c.deref.ensures.value, c.from.ensures, c.from-2.ensures, c.ms.ensures.value) at c.in_ok-sdp.ensures)
