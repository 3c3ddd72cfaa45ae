-- How a request is answered, from its plan and what came of it.
use Rattle.std.specs.Prelude.{ℕ, List, [], ◌∷◌, ◌++◌, Option, Some, None, Result, Ok, Err}
use Rattle.rtsp_grammar.specs.Header.{HeaderText}
use Rattle.rtsp_grammar.specs.declared.message.Response.{Response}
use Rattle.rtsp_record.specs.declared.changes.Record.{Record}
use Rattle.rtsp_record.specs.declared.changes.Record.TheVariants as records
use Rattle.rtsp_record.specs.declared.phases.Phase.{Phase}
use Rattle.rtsp_record.specs.declared.phases.Phase.TheVariants as phases
use Rattle.rtsp_book.specs.declared.asks.Admitted.{Admitted}
use Rattle.rtsp_book.specs.declared.refusals.Refusal.{Refusal}
use Rattle.rtsp_state.specs.declared.status.Status.TheVariants.{Success}
use Rattle.rtsp_state.specs.declared.timing.Timing.{Timing}
use Rattle.rtsp_state.specs.declared.rtp_info.StreamInfo.{StreamInfo}
use Rattle.rtsp_state.specs.declared.step_plan.Details.{Details}
use Rattle.rtsp_state.specs.declared.step_plan.Details.TheVariants as details
use Rattle.rtsp_state.specs.declared.step_plan.StepPlan.{StepPlan}
use Rattle.rtsp_state.specs.declared.setup_plan.SessionKey.{SessionKey}
use Rattle.rtsp_state.specs.declared.setup_plan.SetupPlan.{SetupPlan}
use Rattle.rtsp_state.specs.SetupPlan.{key_of, setup_start}
use Rattle.rtsp_state.specs.declared.step_plan.Played.{Played}
use Rattle.rtsp_state.specs.Lines.{cseq_line, opened_line, transport_line, accept_ranges_line, properties_line, media_range_line, range_line, seek_line, start_lines}
use Rattle.rtsp_state.specs.Info.{info_line}
use Rattle.rtsp_state.specs.Response.{response, refusal_response}

-- the phase that a step moved to
abbrev pub moved : List Record → Option Phase
moved (records.Move transition ∷ rest) = Some transition.to
moved other = None

-- where a session is paused: the point that the step moved to, or the one that it was at
abbrev pub paused_at : ℕ → Option Phase → ℕ
paused_at at (Some (phases.Ready point sent)) = point
paused_at at (Some (phases.Playing from stop sent since)) = at
paused_at at (Some (phases.Ended point sent)) = at
paused_at at None = at

-- what is played, and how many units were sent in earlier plays
abbrev pub played_in : Option Phase → Played
played_in (Some (phases.Playing from stop sent since)) = record { from = from; stop = stop; sent = sent }
played_in (Some (phases.Ready at sent)) = record { from = 0; stop = 0; sent = 0 }
played_in (Some (phases.Ended at sent)) = record { from = 0; stop = 0; sent = 0 }
played_in None = record { from = 0; stop = 0; sent = 0 }

abbrev pub played_lines : Timing → List StreamInfo → Played → List HeaderText
played_lines timing parts play = range_line play.from play.stop timing.unit_ms ∷ seek_line ∷ info_line parts play.sent ∷ []

-- what the response to a step shows behind its front
abbrev pub shown_lines : Details → Option Phase → List HeaderText
shown_lines details.Nothing phase = []
shown_lines (details.Paused timing at) phase = range_line (paused_at at phase) timing.units timing.unit_ms ∷ []
shown_lines (details.Played timing parts) phase = played_lines timing parts (played_in phase)

-- the response to a step that was made
abbrev pub done : StepPlan → List Record → Response
done s receipt = response Success (start_lines s.done ++ shown_lines s.details (moved receipt)) []

abbrev pub granted_lines : SetupPlan → Option ℕ → ℕ → Admitted → List HeaderText
granted_lines plan source id made = cseq_line plan.cseq ∷ opened_line id plan.timeout ∷ transport_line source made.address made.stream ∷ []

abbrev pub media_lines : Timing → List HeaderText
media_lines timing = accept_ranges_line ∷ properties_line timing.longest_gap timing.unit_ms ∷ media_range_line timing ∷ []

abbrev pub admitted_lines : SetupPlan → Option ℕ → ℕ → Admitted → List HeaderText
admitted_lines plan source id made = granted_lines plan source id made ++ media_lines plan.timing

-- the response to an admission into the session of this id, with the host that packets come from, where it has to be told
abbrev pub admitted : SetupPlan → Option ℕ → ℕ → Admitted → Response
admitted plan source id made = response Success (admitted_lines plan source id made) []

-- the response to a step, from what came of it
abbrev pub step_answer : StepPlan → Result (List Record) Refusal → Response
step_answer plan (Ok receipt) = done plan receipt
step_answer plan (Err refusal) = refusal_response plan.start refusal

-- the response to an admission, from the host to be told, the key that was drawn and what came of it
abbrev pub setup_answer : SetupPlan → Option ℕ → SessionKey → Result Admitted Refusal → Response
setup_answer plan source drawn (Ok made) = admitted plan source (key_of plan.session drawn).id made
setup_answer plan source drawn (Err refusal) = refusal_response (setup_start plan) refusal
