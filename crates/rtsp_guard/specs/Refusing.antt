-- How a request is answered that isn't let through at a gate.
use Rattle.std.specs.Prelude.{ℕ, Bool, true, false, List, [], ◌∷◌, map, codes, decimal, None, Result, Ok, Err, if◌then◌else◌}
use Rattle.rtsp_grammar.specs.Header.{HeaderText}
use Rattle.rtsp_grammar.specs.Writing.{response_text}
use Rattle.rtsp_grammar.specs.declared.message.Request.{Request}
use Rattle.rtsp_grammar.specs.declared.message.Response.{Response}
use Rattle.rtsp_grammar.specs.declared.version.Version.TheVariants.{Rtsp2}
use Rattle.rtsp_credentials.specs.Challenge.{challenge_text, algorithms_offered}
use Rattle.rtsp_credentials.specs.declared.algorithm.Algorithm.{Algorithm}
use Rattle.rtsp_credentials.specs.declared.gate.Gate.{Gate}
use Rattle.rtsp_credentials.specs.declared.users.Users.{Users}
use Rattle.rtsp_credentials.specs.declared.refusal.Refusal.{Refusal}
use Rattle.rtsp_credentials.specs.declared.refusal.Refusal.TheVariants as refusals
use Rattle.rtsp_state.specs.OrderOfRefusals.{cseq_of}
use Rattle.rtsp_state.specs.Response.{response, refused}
use Rattle.rtsp_state.specs.declared.fault.Fault.{Fault}
use Rattle.rtsp_state.specs.declared.fault.Fault.TheVariants as faults
use Rattle.rtsp_state.specs.declared.status.Status.TheVariants.{BadRequest}

-- the request itself is wrong, so no credentials would help it
abbrev pub is_malformed : Refusal → Bool
is_malformed refusals.Repeated = true
is_malformed refusals.Malformed = true
is_malformed refusals.OtherUri = true
is_malformed refusal = false

-- the number of the request
abbrev pub number_line : ℕ → HeaderText
number_line cseq = record { name = codes "CSeq"; value = decimal cseq }

abbrev pub challenge_line : Users → Gate → Refusal → Algorithm → HeaderText
challenge_line users gate refusal algorithm = record { name = codes "WWW-Authenticate"; value = challenge_text users.realm gate algorithm refusal }

-- one for each hash function of which some user has a digest
abbrev pub challenge_lines : Users → Gate → Refusal → List HeaderText
challenge_lines users gate refusal = map (challenge_line users gate refusal) (algorithms_offered users.offer)

-- 401: who asks is to say who he is (RFC 7616 section 3.3)
abbrev pub unauthorized : Users → Gate → Refusal → ℕ → Response
unauthorized users gate refusal cseq = record { version = Rtsp2; status = 401; reason = codes "Unauthorized"; headers = number_line cseq ∷ challenge_lines users gate refusal; body = [] }

abbrev pub bad_request : ℕ → Response
bad_request cseq = refused (record { cseq = cseq; session = None }) (faults.Refused BadRequest)

abbrev pub numbered : Users → Gate → Refusal → ℕ → Response
numbered users gate refusal cseq = if is_malformed refusal then bad_request cseq else unauthorized users gate refusal cseq

-- a request whose number can't be read is answered as the desk answers it
abbrev pub numbered_as : Users → Gate → Refusal → Result ℕ Fault → Response
numbered_as users gate refusal (Ok cseq) = numbered users gate refusal cseq
numbered_as users gate refusal (Err fault) = response BadRequest [] []

-- the response to a request that isn't let through
abbrev pub refusal_response : Users → Gate → Refusal → Request → Response
refusal_response users gate refusal request = numbered_as users gate refusal (cseq_of request.headers)

abbrev pub refusal_text : Users → Gate → Refusal → Request → List ℕ
refusal_text users gate refusal request = response_text (refusal_response users gate refusal request)
