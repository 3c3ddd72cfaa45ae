-- How far a play is, by the unit and the place of its next packet.
use Rattle.std.specs.Prelude.{ℕ, List, ◌+◌, ◌-◌, ◌*◌, ◌≤◌, length}
use Rattle.rtsp_record.specs.declared.phases.Phase.{Phase}
use Rattle.rtsp_record.specs.declared.phases.Phase.TheVariants.{Playing}
use Rattle.rtsp_rtp.specs.declared.play.Play.{Play}
use Rattle.rtsp_rtp.specs.declared.play.Progress.{Progress}
use Rattle.rtsp_rtp.specs.declared.sender_state.SenderState.{SenderState}
use Rattle.rtsp_rtp.specs.Sinks.{Calls}
use Rattle.rtsp_rtp.specs.Pacing.{Pacing}
use Rattle.rtsp_rtp.specs.Turns.{unsent_at, SendsAll, SendsSome}

-- how many packets come before the next one, where each unit has so many
abbrev pub sent_at : ℕ → Progress → ℕ
sent_at count at = at.unit * count + at.place

-- the next one is among those of its unit, if there are any
abbrev pub IsPlaced : ℕ → Progress → Type 0
IsPlaced count at = at.place ≤ count - 1

-- the phase of the session in the play
abbrev pub phase_of : Play → Phase
phase_of y = Playing y.from y.stop y.sent y.since

-- the play, with what comes before the next packet sent
abbrev pub pacing_of : Play → Progress → List SenderState → Pacing
pacing_of y at states = record { session = y.session; phase = phase_of y; unit_ms = y.unit_ms; sources = y.sources; states = states; done = sent_at (length y.sources) at }

module _ {S : Type 0} (calls : Calls S) (y : Play) (moment : ℕ) (from to : Progress) (states after : List SenderState) (s u : S) where
  -- what was due at a moment and unsent was sent
  abbrev pub SendsDue : Type 0
  SendsDue = SendsAll calls (phase_of y) y.unit_ms (unsent_at (pacing_of y from states) moment) (sent_at (length y.sources) from) (sent_at (length y.sources) to) states after s u

  -- some of it was sent, and then the sink failed
  abbrev pub SendsDuePart : Type 0
  SendsDuePart = SendsSome calls (phase_of y) y.unit_ms (unsent_at (pacing_of y from states) moment) (sent_at (length y.sources) from) (sent_at (length y.sources) to) states after s u
