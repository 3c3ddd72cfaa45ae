-- The room of each reply: 300 bytes, and what the client or the content makes longer.
use Rattle.std.proofs.Common.{◌≡◌, ℕ, ◌+◌, List, [], ◌∷◌, ◌++◌, length, refl, arith}
use Rattle.std.specs.Prelude.{Option, Some, None, sum_by}
use Rattle.std.proofs.lemmas.List.Sums.{sum_by-append}
use Rattle.rtsp_grammar.specs.Header.{HeaderText}
use Rattle.rtsp_state.specs.declared.fault.Fault.{Fault}
use Rattle.rtsp_state.specs.declared.fault.Fault.TheVariants as faults
use Rattle.rtsp_state.specs.declared.status.Status.{Status}
use Rattle.rtsp_state.specs.declared.status.Status.TheVariants as statuses
use Rattle.rtsp_state.specs.declared.words.Word.TheVariants as words
use Rattle.rtsp_state.specs.declared.response_start.ResponseStart.{ResponseStart}
use Rattle.rtsp_state.specs.declared.reply.Kind.{Kind}
use Rattle.rtsp_state.specs.declared.reply.Kind.TheVariants as kinds
use Rattle.rtsp_state.specs.Words.{name_of_field}
use Rattle.rtsp_state.specs.Lines.{session_lines, start_lines, public_line, unsupported_line, base_line, type_line, length_line}
use Rattle.rtsp_state.specs.Response.{response, status_lines, refused}
use Rattle.rtsp_state.specs.Bounds.{value_room, reply_room}
use Rattle.rtsp_state.specs.Reply.{reply_of, open_size}

session_room : (session : Option ℕ) → sum_by value_room (session_lines session) ≡ 0
unfolding name_of_field
session_room None = refl
session_room (Some id) = refl

front_room : (start : ResponseStart) → sum_by value_room (start_lines start) ≡ 0
unfolding name_of_field
front_room start = session_room start.session

status_room : (status : Status) → sum_by value_room (status_lines status) ≡ 0
unfolding name_of_field
status_room statuses.MethodNotValid = refl
status_room statuses.HeaderNotValid = refl
status_room other = refl

-- what follows the first headers decides
after_front : (status : Status) (start : ResponseStart) (hs : List HeaderText) (body : List ℕ) → reply_room (response status (start_lines start ++ hs) body) ≡ sum_by value_room hs + length body + 300
unfolding reply_room
after_front status start hs body = let a = sum_by-append value_room (start_lines start) hs in omega (arith, a, front_room start)

fault_room : (start : ResponseStart) (fault : Fault) → reply_room (refused start fault) ≡ open_size (kinds.Refused start fault) + 300
unfolding reply_room name_of_field
fault_room start (faults.Refused status) = omega (arith, after_front status start (status_lines status) [], status_room status)
fault_room start (faults.Unsupported tags) = omega (arith, after_front statuses.OptionNotSupported start (unsupported_line tags ∷ []) [])
fault_room start faults.OutOfMemory = omega (arith, front_room start)

-- the room of a reply
pub room_of_reply : (kind : Kind) → reply_room (reply_of kind) ≡ open_size kind + 300
unfolding reply_room name_of_field
room_of_reply kinds.Unnumbered = refl
room_of_reply (kinds.Refused start fault) = fault_room start fault
room_of_reply (kinds.Options start) = omega (arith, after_front statuses.Success start (public_line ∷ []) [])
room_of_reply (kinds.Plain start) = omega (arith, after_front statuses.Success start [] [])
room_of_reply (kinds.Described start base sdp) = omega (arith, after_front statuses.Success start (base_line base ∷ type_line words.Sdp ∷ length_line sdp ∷ []) sdp)
room_of_reply (kinds.Parameters start body) = omega (arith, after_front statuses.Success start (type_line words.Parameters ∷ length_line body ∷ []) body)
