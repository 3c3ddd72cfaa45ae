use Rattle.rtsp_content.specs.Sdp.{track_text}
use Rattle.rtsp_content.proofs.sdp.append_track.Goals as goal

pub returns : goal.returns
unfolding track_text
returns c =
    simp (c.as_bytes.ensures.value, c.media_name.ensures, c.as_bytes-2.ensures.value, c.as_bytes-3.ensures.value, c.format-payload_type.ensures.text, c.payload_type.ensures.value, c.as_bytes-4.ensures.value, c.encoding.ensures.value, c.as_bytes-5.ensures.value, c.format-clock.ensures.text, c.clock.ensures.value, c.as_bytes-6.ensures.value, c.name.ensures.value, c.as_slice.ensures.value, c.as_slice-2.ensures.value, c.in_ok-channels.ensures, c.in_ok-parameters.ensures, c.channels.ensures.value, c.format_parameters.ensures.value) at c.append_all.ensures.ok
