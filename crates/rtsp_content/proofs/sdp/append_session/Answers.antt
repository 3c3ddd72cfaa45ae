use Rattle.rtsp_content.specs.Sdp.{session_text}
use Rattle.rtsp_content.proofs.sdp.append_session.Goals as goal

pub returns : goal.returns
unfolding session_text
returns c =
    simp (c.as_bytes.ensures.value, c.as_bytes-2.ensures.value, c.format-seconds.ensures.text, c.three_digits-decimals.ensures) at c.append_all.ensures.ok
