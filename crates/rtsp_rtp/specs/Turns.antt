-- What a turn of a pacer does.
use Rattle.std.specs.Prelude.{◌≡◌, ℕ, ◌+◌, ◌<◌, if◌then◌else◌, List, [], ◌∷◌, drop, take, length, slice_get, Option, Some, None}
use Rattle.rtsp_record.specs.declared.phases.Phase.{Phase}
use Rattle.rtsp_record.specs.Counters.{raised}
use Rattle.rtsp_record.specs.Moments.{due, sent_before}
use Rattle.rtsp_rtp.specs.declared.source.Source.{Source}
use Rattle.rtsp_rtp.specs.declared.turn.Turn.{Turn}
use Rattle.rtsp_rtp.specs.declared.turn.Turn.TheVariants.{More, AtEnd, OtherPlay, SinkFailed}
use Rattle.rtsp_content.specs.declared.packing.Packing.{Packing}
use Rattle.rtsp_content.specs.declared.packing.Packing.TheVariants.{Single, Slots, Equal}
use Rattle.rtsp_content.specs.PackingLimits.{unit_len}
use Rattle.rtsp_rtp.specs.declared.part.SlotFault.{SlotFault}
use Rattle.rtsp_rtp.specs.declared.sender_state.SenderState.{SenderState}
use Rattle.rtsp_rtp.specs.Parts.{parts_of}
use Rattle.rtsp_rtp.specs.SenderStates.{is_reporting}
use Rattle.rtsp_rtp.specs.Reports.{unit_report}
use Rattle.rtsp_rtp.specs.UnitPackets.{unit_packets, fault_in, counted_in, states_behind}
use Rattle.rtsp_rtp.specs.Sinks.{Calls, Took, Sent, Refused, Reported, Failed}
use Rattle.rtsp_rtp.specs.Pacing.{Pacing, IsOfPlay, begun_at, first_unit, packets_in, schedule}

-- the units that are due at a moment and unsent
abbrev pub unsent_at : Pacing → ℕ → List (ℕ × Source)
unsent_at p moment = drop p.done (schedule p.sources 0 (due p.phase p.unit_ms moment))

module _ {S : Type 0} (calls : Calls S) where
  -- packets of a track were sent, one after another
  abbrev pub PacketsSent : ℕ → List (List ℕ) → S → S → Type 0
  PacketsSent track [] s u = u ≡ s
  PacketsSent track (p ∷ ps) s u = (d : S) × Sent calls track p s d × PacketsSent track ps d u

  -- the sink heard what is wrong with a unit, if anything is
  abbrev pub Hears : ℕ → ℕ → Option SlotFault → S → S → Type 0
  Hears track unit None s u = u ≡ s
  Hears track unit (Some fault) s u = Refused calls track unit fault s u

  -- a track reported, if it has to
  abbrev pub Reports : ℕ → Option (List ℕ) → S → S → Type 0
  Reports track None s u = u ≡ s
  Reports track (Some report) s u = Reported calls track report s u

-- the report that goes behind so many packets of the unit i of a play and a source, if one does; they are counted in the state
abbrev pub report_due : Phase → ℕ → Source → ℕ → SenderState → ℕ → Option (List ℕ)
report_due phase unit_ms x i state packets =
    if is_reporting state i packets then Some (unit_report (begun_at phase) unit_ms (sent_before phase) x i state) else None

-- the same by the octets of the unit
abbrev pub report_behind : Packing → Phase → ℕ → Source → ℕ → List SenderState → List ℕ → Option (List ℕ)
report_behind Single phase unit_ms x i states octets = None
report_behind packing phase unit_ms x i states octets =
    let ps = (parts_of packing x.ticks octets).parts in
    report_due phase unit_ms x i (counted_in x states ps) (length ps)

module _ {S : Type 0} (calls : Calls S) (phase : Phase) (unit_ms : ℕ) where
  -- the packets of the unit i of the play and a source were sent, what is wrong with it was told, and the source reported
  pub record UnitSent (i : ℕ) (x : Source) (states after : List SenderState) (s u : S) : Type 0 where
    pub octets : List ℕ
    pub full : length octets ≡ unit_len x.packing x.octets
    pub between : S
    pub took : Took calls x.track (first_unit phase + i) octets s between
    pub heard : S
    pub sent : PacketsSent calls x.track (unit_packets x.packing x (sent_before phase) i states octets) between heard
    pub told : S
    pub hears : Hears calls x.track (first_unit phase + i) (fault_in x.packing x.ticks octets) heard told
    pub reports : Reports calls x.track (report_behind x.packing phase unit_ms x i states octets) told u
    pub counted : after ≡ states_behind x.packing unit_ms x i states octets

  -- units were sent, one after another
  abbrev pub AllSent : List (ℕ × Source) → List SenderState → List SenderState → S → S → Type 0
  AllSent [] states after s u = (after ≡ states) × (u ≡ s)
  AllSent (x ∷ xs) states after s u = (between : List SenderState) × (d : S) × UnitSent x.0 x.1 states between s d × AllSent xs between after d u

  -- with so many units sent before, all of these were sent
  pub record SendsAll (due : List (ℕ × Source)) (before now : ℕ) (states after : List SenderState) (s u : S) : Type 0 where
    pub sent : AllSent due states after s u
    pub done : now ≡ before + length due

  -- with so many sent before, the first of these were sent, and then the sink failed at the next one
  pub record SendsSome (due : List (ℕ × Source)) (before now : ℕ) (states after : List SenderState) (s u : S) : Type 0 where
    pub count : ℕ
    pub done : now ≡ before + count
    pub next : ℕ × Source
    pub is_next : slice_get due count ≡ Some next
    pub between : S
    pub sent : AllSent (take count due) states after s between
    pub failed : Failed calls between u

-- the session is in another play, and nothing was done
pub record IsOther {S : Type 0} (p q : Pacing) (session : ℕ) (phase : Phase) (s u : S) : Type 0 where
  pub other : ¬ (IsOfPlay p session phase)
  pub pacer : q ≡ p
  pub sink : u ≡ s

module _ {S : Type 0} (calls : Calls S) (p q : Pacing) (session : ℕ) (phase : Phase) (moment : ℕ) where
  -- all that was due and unsent was sent
  pub record Went (s u : S) : Type 0 where
    pub own : IsOfPlay p session phase
    pub sends : SendsAll calls p.phase p.unit_ms (unsent_at p moment) p.done q.done p.states q.states s u
    pub pacer : q ≡ record p { states = q.states; done = q.done }

  -- some of it was sent, and then the sink failed
  pub record Failing (s u : S) : Type 0 where
    pub own : IsOfPlay p session phase
    pub sends : SendsSome calls p.phase p.unit_ms (unsent_at p moment) p.done q.done p.states q.states s u
    pub pacer : q ≡ record p { states = q.states; done = q.done }

  -- a turn of the pacer p at a moment, by its answer
  abbrev pub Turned : Turn → S → S → Type 0
  Turned More s u = Went s u × (q.done < packets_in q)
  Turned AtEnd s u = Went s u × (q.done ≡ packets_in q)
  Turned OtherPlay s u = IsOther p q session phase s u
  Turned SinkFailed s u = Failing s u

-- a failure of the sink was counted where the answer tells of one, and only there
abbrev pub CountsFault : {S : Type 0} → Calls S → Turn → S → S → Type 0
CountsFault calls SinkFailed s u = calls.failures u ≡ raised (calls.failures s)
CountsFault calls More s u = calls.failures u ≡ calls.failures s
CountsFault calls AtEnd s u = calls.failures u ≡ calls.failures s
CountsFault calls OtherPlay s u = calls.failures u ≡ calls.failures s
