-- Fixed texts of responses.
use Rattle.std.specs.Prelude.{ℕ, List, codes}
use Rattle.rtsp_state.specs.declared.words.Field.{Field}
use Rattle.rtsp_state.specs.declared.words.Field.TheVariants as fields
use Rattle.rtsp_state.specs.declared.words.Word.{Word}
use Rattle.rtsp_state.specs.declared.words.Word.TheVariants as words

-- in their order
unfoldable pub name_of_field : Field → List ℕ
name_of_field fields.CSeq = codes "CSeq"
name_of_field fields.Session = codes "Session"
name_of_field fields.Public = codes "Public"
name_of_field fields.Allow = codes "Allow"
name_of_field fields.Unsupported = codes "Unsupported"
name_of_field fields.Transport = codes "Transport"
name_of_field fields.AcceptRanges = codes "Accept-Ranges"
name_of_field fields.MediaProperties = codes "Media-Properties"
name_of_field fields.MediaRange = codes "Media-Range"
name_of_field fields.Range = codes "Range"
name_of_field fields.SeekStyle = codes "Seek-Style"
name_of_field fields.RtpInfo = codes "RTP-Info"
name_of_field fields.ContentBase = codes "Content-Base"
name_of_field fields.ContentType = codes "Content-Type"
name_of_field fields.ContentLength = codes "Content-Length"

unfoldable pub text_of : Word → List ℕ
text_of words.AllMethods = codes "OPTIONS, DESCRIBE, SETUP, PLAY, PAUSE, TEARDOWN, GET_PARAMETER, SET_PARAMETER"
text_of words.AlwaysMethods = codes "OPTIONS, DESCRIBE, GET_PARAMETER, SET_PARAMETER"
text_of words.Npt = codes "npt"
text_of words.Timeout = codes ";timeout="
text_of words.RandomAccess = codes "Random-Access="
text_of words.Immutable = codes ", Immutable, Unlimited"
text_of words.Rap = codes "RAP"
text_of words.Sdp = codes "application/sdp"
text_of words.Parameters = codes "text/parameters"
text_of words.UrlIs = codes "url=\""
text_of words.SsrcIs = codes "\" ssrc="
text_of words.SeqIs = codes ":seq="
text_of words.RtptimeIs = codes ";rtptime="
text_of words.Comma = codes ","
text_of words.PositionIs = codes "position: "
text_of words.DurationIs = codes "duration: "
text_of words.LineEnd = codes "\r\n"
