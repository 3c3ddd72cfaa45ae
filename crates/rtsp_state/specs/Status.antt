-- The statuses of a response, in the order of their numbers.
use Rattle.std.specs.Prelude.{ℕ, List, codes}
use Rattle.rtsp_book.specs.declared.refusals.Refusal.{Refusal}
use Rattle.rtsp_book.specs.declared.refusals.Refusal.TheVariants.{NoSession, NoBandwidth, WrongState, NotHeld, TooManySessions, NoPair, NoChannel, JournalFull, NumbersSpent, IdTaken, StartupTaken, OutOfMemory, NothingDue}
use Rattle.rtsp_state.specs.declared.status.Status.{Status}
use Rattle.rtsp_state.specs.declared.status.Status.TheVariants.{Success, BadRequest, NotFound, ParameterNotUnderstood, NotEnoughBandwidth, SessionNotFound, MethodNotValid, HeaderNotValid, InvalidRange, AggregateNotAllowed, OnlyAggregateAllowed, UnsupportedTransport, DestinationProhibited, ServerError, NotImplemented, Unavailable, VersionNotSupported, OptionNotSupported}

abbrev pub code : Status → ℕ
code Success = 200
code BadRequest = 400
code NotFound = 404
code ParameterNotUnderstood = 451
code NotEnoughBandwidth = 453
code SessionNotFound = 454
code MethodNotValid = 455
code HeaderNotValid = 456
code InvalidRange = 457
code AggregateNotAllowed = 459
code OnlyAggregateAllowed = 460
code UnsupportedTransport = 461
code DestinationProhibited = 463
code ServerError = 500
code NotImplemented = 501
code Unavailable = 503
code VersionNotSupported = 505
code OptionNotSupported = 551

abbrev pub reason : Status → List ℕ
reason Success = codes "OK"
reason BadRequest = codes "Bad Request"
reason NotFound = codes "Not Found"
reason ParameterNotUnderstood = codes "Parameter Not Understood"
reason NotEnoughBandwidth = codes "Not Enough Bandwidth"
reason SessionNotFound = codes "Session Not Found"
reason MethodNotValid = codes "Method Not Valid in This State"
reason HeaderNotValid = codes "Header Field Not Valid for Resource"
reason InvalidRange = codes "Invalid Range"
reason AggregateNotAllowed = codes "Aggregate Operation Not Allowed"
reason OnlyAggregateAllowed = codes "Only Aggregate Operation Allowed"
reason UnsupportedTransport = codes "Unsupported Transport"
reason DestinationProhibited = codes "Destination Prohibited"
reason ServerError = codes "Internal Server Error"
reason NotImplemented = codes "Not Implemented"
reason Unavailable = codes "Service Unavailable"
reason VersionNotSupported = codes "RTSP Version Not Supported"
reason OptionNotSupported = codes "Option Not Supported"

-- the status of a refused step
abbrev pub status_of : Refusal → Status
status_of NoSession = SessionNotFound
status_of NoBandwidth = NotEnoughBandwidth
status_of WrongState = MethodNotValid
status_of NotHeld = MethodNotValid
status_of TooManySessions = Unavailable
status_of NoPair = Unavailable
status_of NoChannel = Unavailable
status_of JournalFull = Unavailable
status_of NumbersSpent = Unavailable
status_of IdTaken = ServerError
status_of StartupTaken = ServerError
status_of OutOfMemory = ServerError
status_of NothingDue = ServerError
