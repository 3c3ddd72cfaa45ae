-- A track that is to be set up: what its responses show first, and the whole ask.
use Rattle.std.specs.Prelude.{ℕ, Option, Some, None}
use Rattle.rtsp_book.specs.declared.asks.Opening.{Opening}
use Rattle.rtsp_book.specs.declared.asks.Wanted.{Wanted}
use Rattle.rtsp_book.specs.declared.asks.Wanted.TheVariants as wanted
use Rattle.rtsp_book.specs.declared.asks.Ask.{Ask}
use Rattle.rtsp_sessions.specs.declared.startups.Startup.{Startup}
use Rattle.rtsp_record.specs.Choices.{IsWish}
use Rattle.rtsp_record.specs.declared.streams.Stream.{Stream}
use Rattle.rtsp_state.specs.declared.response_start.ResponseStart.{ResponseStart}
use Rattle.rtsp_state.specs.declared.setup_plan.SessionKey.{SessionKey}
use Rattle.rtsp_state.specs.declared.setup_plan.SetupSession.{SetupSession}
use Rattle.rtsp_state.specs.declared.setup_plan.SetupSession.TheVariants.{New, Living}
use Rattle.rtsp_state.specs.declared.setup_plan.Delivery.{Delivery}
use Rattle.rtsp_state.specs.declared.setup_plan.Delivery.TheVariants.{Udp, Mux, Interleaved}
use Rattle.rtsp_state.specs.declared.setup_plan.SetupPlan.{SetupPlan}
use Rattle.rtsp_state.specs.declared.setup_plan.Drawn.{Drawn}

-- a living session's key is its own, a new one's is drawn
abbrev pub key_of : SetupSession → SessionKey → SessionKey
key_of (New expires startup) drawn = drawn
key_of (Living key) drawn = key

-- a session that lives is shown, whatever comes of the admission
abbrev pub id_known : SetupSession → Option ℕ
id_known (New expires startup) = None
id_known (Living key) = Some key.id

abbrev pub setup_start : SetupPlan → ResponseStart
setup_start plan = record { cseq = plan.cseq; session = id_known plan.session }

abbrev pub opening_of : SetupSession → Drawn → Option Opening
opening_of (New expires startup) drawn = Some (record { id = drawn.key.id; conn = drawn.conn; expires = expires })
opening_of (Living key) drawn = None

-- a new session gets the startup number that the client gave, on the connection
abbrev pub startup_of : SetupSession → ℕ → Option Startup
startup_of (New expires (Some number)) conn = Some (record { conn = conn; number = number })
startup_of (New expires None) conn = None
startup_of (Living key) conn = None

abbrev pub wanted_of : Delivery → ℕ → Wanted
wanted_of (Udp rtp rtcp) conn = wanted.Pair
wanted_of (Mux port) conn = wanted.Port
wanted_of (Interleaved wish) conn = wanted.Channels conn wish

abbrev pub rtp_port : Delivery → ℕ
rtp_port (Udp rtp rtcp) = rtp
rtp_port (Mux port) = port
rtp_port (Interleaved wish) = 0

abbrev pub rtcp_port : Delivery → ℕ
rtcp_port (Udp rtp rtcp) = rtcp
rtcp_port (Mux port) = port
rtcp_port (Interleaved wish) = 0

abbrev pub stream_of : SetupPlan → Drawn → Stream
stream_of plan drawn = record {
  presentation = plan.presentation;
  track = plan.track;
  ssrc = drawn.ssrc;
  seq = drawn.seq;
  rtptime = drawn.rtptime;
  peer = plan.peer;
  rtp_port = rtp_port plan.delivery;
  rtcp_port = rtcp_port plan.delivery;
}

-- the whole ask: what is known, and what was drawn
abbrev pub ask_of : SetupPlan → Drawn → Ask
ask_of plan drawn = record {
  session = (key_of plan.session drawn.key).session;
  admission = drawn.admission;
  opening = opening_of plan.session drawn;
  rate = plan.rate;
  wanted = wanted_of plan.delivery drawn.conn;
  stream = stream_of plan drawn;
  startup = startup_of plan.session drawn.conn;
}

-- what is wished for is an even channel that has another after it
abbrev pub WishesWell : Wanted → Type 0
WishesWell wanted.Pair = Unit {0}
WishesWell wanted.Port = Unit {0}
WishesWell (wanted.Channels conn wish) = IsWish wish
