-- The description of a presentation in SDP (RFC 4566). Lines end with CR LF.
use Rattle.std.specs.Prelude.{ℕ, ◌*◌, ◌/◌, List, [], ◌∷◌, ◌++◌, Option, Some, None, codes, decimal}
use Rattle.std.specs.List.{concat, flat_map}
use Rattle.rtsp_text.specs.Decimal.{three_digits}
use Rattle.rtsp_content.specs.Track.{media_text}
use Rattle.rtsp_content.specs.TrackValue.{TrackValue}
use Rattle.rtsp_content.specs.PresentationValue.{PresentationValue}

-- version, origin, name, connection, time, control, and the range from 0 to the length in seconds (RFC 7826, appendix D)
unfoldable pub session_text : List ℕ → ℕ → List ℕ
session_text name ms =
    concat (
    codes "v=0\r\n" ∷
    codes "o=- 1 1 IN IP4 127.0.0.1\r\n" ∷
    codes "s=" ∷ name ∷ codes "\r\n" ∷
    codes "c=IN IP4 0.0.0.0\r\n" ∷
    codes "t=0 0\r\n" ∷
    codes "a=control:*\r\n" ∷
    codes "a=range:npt=0.000-" ∷ decimal (ms / 1000) ∷ codes "." ∷ three_digits ms ∷ codes "\r\n" ∷ [])

-- how many channels, where a track says so (section 6)
abbrev pub channels_text : Option ℕ → List ℕ
channels_text None = []
channels_text (Some n) = codes "/" ++ decimal n

-- the format parameters of a payload type, where a track has them (section 6)
abbrev pub parameters_text : List ℕ → Option (List ℕ) → List ℕ
parameters_text payload_type None = []
parameters_text payload_type (Some text) = concat (codes "a=fmtp:" ∷ payload_type ∷ codes " " ∷ text ∷ codes "\r\n" ∷ [])

-- media, encoding, format parameters and control of a track
unfoldable pub track_text : TrackValue → List ℕ
track_text t =
    concat (
    codes "m=" ∷ media_text t.media ∷ codes " 0 RTP/AVP " ∷ decimal t.payload_type ∷ codes "\r\n" ∷
    codes "a=rtpmap:" ∷ decimal t.payload_type ∷ codes " " ∷ t.encoding ∷ codes "/" ∷ decimal t.clock ∷ channels_text t.channels ∷ codes "\r\n" ∷
    parameters_text (decimal t.payload_type) t.format_parameters ∷
    codes "a=control:" ∷ t.name ∷ codes "\r\n" ∷ [])

-- the whole, and then the tracks in order
unfoldable pub sdp_of : PresentationValue → List ℕ
sdp_of p = session_text p.name (p.units * p.unit_ms) ++ flat_map track_text p.tracks
