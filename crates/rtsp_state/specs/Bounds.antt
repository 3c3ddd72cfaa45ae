-- How many bytes a response may need.
use Rattle.std.specs.Prelude.{ℕ, ◌+◌, length, List, sum_by, bytes_eq, ◌||◌, if◌then◌else◌}
use Rattle.rtsp_grammar.specs.Header.{HeaderText}
use Rattle.rtsp_grammar.specs.declared.message.Response.{Response}
use Rattle.rtsp_state.specs.declared.words.Field.TheVariants as fields
use Rattle.rtsp_state.specs.declared.rtp_info.StreamInfo.{StreamInfo}
use Rattle.rtsp_state.specs.declared.step_plan.StepPlan.{StepPlan}
use Rattle.rtsp_state.specs.declared.step_plan.Details.{Details}
use Rattle.rtsp_state.specs.declared.step_plan.Details.TheVariants as details
use Rattle.rtsp_state.specs.Words.{name_of_field}

-- one stream in RTP-Info: its URI, and at most 55 bytes
abbrev pub stream_room : StreamInfo → ℕ
stream_room p = length p.url + 55

-- all of them
abbrev pub info_room : List StreamInfo → ℕ
info_room streams = sum_by stream_room streams

-- what the response to a step has after its first headers
abbrev pub details_room : Details → ℕ
details_room details.Nothing = 0
details_room (details.Paused timing at) = 67
details_room (details.Played timing info) = info_room info + 110

-- the response to a step, done or refused
abbrev pub step_room : StepPlan → ℕ
step_room plan = details_room plan.details + 211

-- the response to a SETUP, admitted or refused
abbrev pub setup_room : ℕ
setup_room = 470

-- option tags and a base are as long as the client wrote them; no other value of a reply is
abbrev pub value_room : HeaderText → ℕ
value_room h =
    if bytes_eq h.name (name_of_field fields.Unsupported) || bytes_eq h.name (name_of_field fields.ContentBase)
    then length h.value else 0

-- a response that is known before any step
unfoldable pub reply_room : Response → ℕ
reply_room r = sum_by value_room r.headers + length r.body + 300
