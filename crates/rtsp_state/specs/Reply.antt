-- A response that is known before any step, kept as what it is made of.
use Rattle.std.specs.Prelude.{ℕ, ◌+◌, length, List, [], ◌∷◌, ◌++◌}
use Rattle.rtsp_grammar.specs.declared.message.Response.{Response}
use Rattle.rtsp_state.specs.declared.fault.Fault.{Fault}
use Rattle.rtsp_state.specs.declared.fault.Fault.TheVariants as faults
use Rattle.rtsp_state.specs.declared.response_start.ResponseStart.{ResponseStart}
use Rattle.rtsp_state.specs.declared.reply.Kind.{Kind}
use Rattle.rtsp_state.specs.declared.reply.Kind.TheVariants as kinds
use Rattle.rtsp_state.specs.declared.status.Status.TheVariants as statuses
use Rattle.rtsp_state.specs.declared.words.Word.TheVariants as words
use Rattle.rtsp_state.specs.Lines.{start_lines, public_line, base_line, type_line, length_line}
use Rattle.rtsp_state.specs.Response.{response, refused}

-- to an OPTIONS (RFC 7826 section 13.1)
abbrev pub options_reply : ResponseStart → Response
options_reply start = response statuses.Success (start_lines start ++ public_line ∷ []) []

-- with its first headers alone
abbrev pub plain_reply : ResponseStart → Response
plain_reply start = response statuses.Success (start_lines start ++ []) []

-- to a DESCRIBE (RFC 7826 section 13.2)
abbrev pub described : ResponseStart → List ℕ → List ℕ → Response
described start base sdp =
    response statuses.Success (start_lines start ++ base_line base ∷ type_line words.Sdp ∷ length_line sdp ∷ []) sdp

-- to a GET_PARAMETER (RFC 7826 section 13.8)
abbrev pub parameters_reply : ResponseStart → List ℕ → Response
parameters_reply start body =
    response statuses.Success (start_lines start ++ type_line words.Parameters ∷ length_line body ∷ []) body

-- the response that each kind means
abbrev pub reply_of : Kind → Response
reply_of kinds.Unnumbered = response statuses.BadRequest [] []
reply_of (kinds.Refused start fault) = refused start fault
reply_of (kinds.Options start) = options_reply start
reply_of (kinds.Plain start) = plain_reply start
reply_of (kinds.Described start base sdp) = described start base sdp
reply_of (kinds.Parameters start body) = parameters_reply start body

-- option tags are as long as the client wrote them
abbrev pub fault_size : Fault → ℕ
fault_size (faults.Refused status) = 0
fault_size (faults.Unsupported tags) = length tags
fault_size faults.OutOfMemory = 0

-- the bytes of a reply that are as many as the client or the content makes them
abbrev pub open_size : Kind → ℕ
open_size kinds.Unnumbered = 0
open_size (kinds.Refused start fault) = fault_size fault
open_size (kinds.Options start) = 0
open_size (kinds.Plain start) = 0
open_size (kinds.Described start base sdp) = length base + length sdp
open_size (kinds.Parameters start body) = length body
