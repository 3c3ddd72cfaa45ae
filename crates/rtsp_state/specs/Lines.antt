-- The headers of a response (RFC 7826 section 18).
use Rattle.std.specs.Prelude.{ℕ, List, [], ◌∷◌, ◌++◌, length, decimal, Option, Some, None}
use Rattle.rtsp_grammar.specs.Header.{HeaderText}
use Rattle.rtsp_text.specs.Hexadecimal.{hex_text}
use Rattle.rtsp_transport.specs.Granted.{transport_text}
use Rattle.rtsp_transport.specs.declared.write.Granted.{Granted}
use Rattle.rtsp_transport.specs.declared.write.Granted.TheVariants.{Udp, Mux, UdpFrom, MuxFrom, Inter}
use Rattle.rtsp_npt.specs.Printed.{time_text, range_text}
use Rattle.rtsp_record.specs.declared.holdings.Thing.{Thing}
use Rattle.rtsp_record.specs.declared.holdings.Thing.TheVariants.{Pair, Port, Chan, Rate}
use Rattle.rtsp_record.specs.declared.streams.Stream.{Stream}
use Rattle.rtsp_state.specs.Words.{name_of_field, text_of}
use Rattle.rtsp_state.specs.declared.words.Field.TheVariants as fields
use Rattle.rtsp_state.specs.declared.words.Word.{Word}
use Rattle.rtsp_state.specs.declared.words.Word.TheVariants as words
use Rattle.rtsp_state.specs.declared.response_start.ResponseStart.{ResponseStart}
use Rattle.rtsp_state.specs.declared.timing.Timing.{Timing}

-- the request's number, as a number
abbrev pub cseq_line : ℕ → HeaderText
cseq_line cseq = record { name = name_of_field fields.CSeq; value = decimal cseq }

-- a session's id is 32 hexadecimal digits
abbrev pub session_line : ℕ → HeaderText
session_line id = record { name = name_of_field fields.Session; value = hex_text 32 id }

-- a session with the seconds that it lives without a request
abbrev pub opened_line : ℕ → ℕ → HeaderText
opened_line id timeout = record { name = name_of_field fields.Session; value = hex_text 32 id ++ text_of words.Timeout ++ decimal timeout }

-- all methods
abbrev pub public_line : HeaderText
public_line = record { name = name_of_field fields.Public; value = text_of words.AllMethods }

-- the methods that are refused in no state
abbrev pub allow_line : HeaderText
allow_line = record { name = name_of_field fields.Allow; value = text_of words.AlwaysMethods }

-- the option tags that are not known
abbrev pub unsupported_line : List ℕ → HeaderText
unsupported_line tags = record { name = name_of_field fields.Unsupported; value = tags }

abbrev pub accept_ranges_line : HeaderText
accept_ranges_line = record { name = name_of_field fields.AcceptRanges; value = text_of words.Npt }

-- so many units lie at most between two at which a play may begin (section 18.29); the media doesn't change, and is there for ever
abbrev pub properties_line : ℕ → ℕ → HeaderText
properties_line gap unit_ms =
    record { name = name_of_field fields.MediaProperties; value = text_of words.RandomAccess ++ time_text gap unit_ms ++ text_of words.Immutable }

-- the whole of the media
abbrev pub media_range_line : Timing → HeaderText
media_range_line timing = record { name = name_of_field fields.MediaRange; value = range_text 0 timing.units timing.unit_ms }

-- from a unit on, and before another
abbrev pub range_line : ℕ → ℕ → ℕ → HeaderText
range_line from stop unit_ms = record { name = name_of_field fields.Range; value = range_text from stop unit_ms }

-- a play starts at a point where the media may be entered
abbrev pub seek_line : HeaderText
seek_line = record { name = name_of_field fields.SeekStyle; value = text_of words.Rap }

-- two ports of the server and two of the client; the server's are told with the host that packets come from, where that isn't the one that the
-- client connected to (section 18.54)
abbrev pub pair_of : Option ℕ → ℕ → Stream → Granted
pair_of None p stream = Udp stream.rtp_port stream.rtcp_port p stream.ssrc
pair_of (Some host) p stream = UdpFrom stream.rtp_port stream.rtcp_port host p stream.ssrc

-- one port of each, in the same way
abbrev pub port_of : Option ℕ → ℕ → Stream → Granted
port_of None p stream = Mux stream.rtp_port p stream.ssrc
port_of (Some host) p stream = MuxFrom stream.rtp_port host p stream.ssrc

-- what an address and a stream are granted as: two channels of the connection, or two ports of the server and two of the
-- client, or one of each; bandwidth alone is no transport
abbrev pub granted_of : Option ℕ → Thing → Stream → Option Granted
granted_of source (Pair p) stream = Some (pair_of source p stream)
granted_of source (Port p) stream = Some (port_of source p stream)
granted_of source (Chan c k) stream = Some (Inter k stream.ssrc)
granted_of source (Rate n) stream = None

unfoldable pub granted_text : Option Granted → List ℕ
granted_text None = []
granted_text (Some granted) = transport_text granted

abbrev pub transport_line : Option ℕ → Thing → Stream → HeaderText
transport_line source address stream = record { name = name_of_field fields.Transport; value = granted_text (granted_of source address stream) }

-- the base of the URIs of tracks: the URI of the request without query and fragment, with a slash at its end
abbrev pub base_line : List ℕ → HeaderText
base_line base = record { name = name_of_field fields.ContentBase; value = base }

abbrev pub type_line : Word → HeaderText
type_line media = record { name = name_of_field fields.ContentType; value = text_of media }

abbrev pub length_line : List ℕ → HeaderText
length_line body = record { name = name_of_field fields.ContentLength; value = decimal (length body) }

-- a living session is shown
abbrev pub session_lines : Option ℕ → List HeaderText
session_lines None = []
session_lines (Some id) = session_line id ∷ []

-- what stands first in each response
abbrev pub start_lines : ResponseStart → List HeaderText
start_lines start = cseq_line start.cseq ∷ session_lines start.session
