-- Texts of a response that are written whole.
use Rattle.std.specs.Prelude.{ℕ, List, [], ◌∷◌, ◌++◌, codes}
use Rattle.rtsp_state.specs.declared.status.Status.{Status}
use Rattle.rtsp_state.specs.declared.status.Status.TheVariants as statuses
use Rattle.rtsp_state.specs.declared.words.Field.{Field}
use Rattle.rtsp_state.specs.declared.words.Word.{Word}
use Rattle.rtsp_state.specs.declared.words.Word.TheVariants as words
use Rattle.rtsp_state.specs.Words.{name_of_field}

-- the name of a header, with the colon and the space before its value
unfoldable pub header_name : Field → List ℕ
header_name field = name_of_field field ++ 58 ∷ 32 ∷ []

-- the first line of a response (RFC 7826 section 8.1)
unfoldable pub status_line : Status → List ℕ
status_line statuses.Success = codes "RTSP/2.0 200 OK\r\n"
status_line statuses.BadRequest = codes "RTSP/2.0 400 Bad Request\r\n"
status_line statuses.NotFound = codes "RTSP/2.0 404 Not Found\r\n"
status_line statuses.ParameterNotUnderstood = codes "RTSP/2.0 451 Parameter Not Understood\r\n"
status_line statuses.NotEnoughBandwidth = codes "RTSP/2.0 453 Not Enough Bandwidth\r\n"
status_line statuses.SessionNotFound = codes "RTSP/2.0 454 Session Not Found\r\n"
status_line statuses.MethodNotValid = codes "RTSP/2.0 455 Method Not Valid in This State\r\n"
status_line statuses.HeaderNotValid = codes "RTSP/2.0 456 Header Field Not Valid for Resource\r\n"
status_line statuses.InvalidRange = codes "RTSP/2.0 457 Invalid Range\r\n"
status_line statuses.AggregateNotAllowed = codes "RTSP/2.0 459 Aggregate Operation Not Allowed\r\n"
status_line statuses.OnlyAggregateAllowed = codes "RTSP/2.0 460 Only Aggregate Operation Allowed\r\n"
status_line statuses.UnsupportedTransport = codes "RTSP/2.0 461 Unsupported Transport\r\n"
status_line statuses.DestinationProhibited = codes "RTSP/2.0 463 Destination Prohibited\r\n"
status_line statuses.ServerError = codes "RTSP/2.0 500 Internal Server Error\r\n"
status_line statuses.NotImplemented = codes "RTSP/2.0 501 Not Implemented\r\n"
status_line statuses.Unavailable = codes "RTSP/2.0 503 Service Unavailable\r\n"
status_line statuses.VersionNotSupported = codes "RTSP/2.0 505 RTSP Version Not Supported\r\n"
status_line statuses.OptionNotSupported = codes "RTSP/2.0 551 Option Not Supported\r\n"

-- how long a fixed part of a value is
abbrev pub word_room : Word → ℕ
word_room words.AllMethods = 77
word_room words.AlwaysMethods = 47
word_room words.Npt = 3
word_room words.Timeout = 9
word_room words.RandomAccess = 14
word_room words.Immutable = 22
word_room words.Rap = 3
word_room words.Sdp = 15
word_room words.Parameters = 15
word_room words.UrlIs = 5
word_room words.SsrcIs = 7
word_room words.SeqIs = 5
word_room words.RtptimeIs = 9
word_room words.Comma = 1
word_room words.PositionIs = 10
word_room words.DurationIs = 10
word_room words.LineEnd = 2
