-- What is sent of a play takes of the uplink no more than is held for it.
use Rattle.std.specs.Prelude.{◌≡◌, ℕ, ◌+◌, ◌-◌, ◌*◌, ◌≤◌, ◌⊎◌, List, [], ◌∷◌, length, Option, Some, None}
use Rattle.std.specs.List.{sum_by}
use Rattle.std.proofs.Common.{inl, inr}
use Rattle.rtsp_record.specs.declared.phases.Phase.{Phase}
use Rattle.rtsp_record.specs.Moments.{sent_before}
use Rattle.rtsp_content.specs.PackingLimits.{packet_count, report_rate}
use Rattle.rtsp_content.specs.Rate.{rate_of}
use Rattle.rtsp_rtp.specs.declared.source.Source.{Source}
use Rattle.rtsp_rtp.specs.declared.turn.Turn.{Turn}
use Rattle.rtsp_rtp.specs.declared.turn.Turn.TheVariants as turns
use Rattle.rtsp_rtp.specs.declared.turn.LastTurn.{LastTurn}
use Rattle.rtsp_rtp.specs.declared.turn.LastTurn.TheVariants as last_turns
use Rattle.rtsp_rtp.specs.declared.sender_state.SenderState.{SenderState}
use Rattle.rtsp_rtp.specs.SenderStates.{unsent_states}
use Rattle.rtsp_rtp.specs.UnitPackets.{unit_packets}
use Rattle.rtsp_rtp.specs.Sinks.{Calls}
use Rattle.rtsp_rtp.specs.Pacing.{Pacing, begun_at}
use Rattle.rtsp_rtp.specs.Turns.{report_behind, UnitSent, AllSent, Turned}
use Rattle.rtsp_rtp.specs.Leaving.{LastTurned}

-- how the packets of a stream leave: over UDP, or in the frames of a connection
pub data Way : Type 0 where
  datagrams : Way
  frames : Way

-- what a packet takes beside its bytes: the headers of IPv4 and UDP, or the head of a frame; those of TCP are the system's
abbrev pub beside : Way → ℕ
beside datagrams = 28
beside frames = 4

abbrev pub wire_of : Way → List ℕ → ℕ
wire_of way packet = length packet + beside way

-- the same of a report, if there is one
abbrev pub report_wire : Way → Option (List ℕ) → ℕ
report_wire way None = 0
report_wire way (Some report) = wire_of way report

-- the bytes that the packets of a unit may take: its octets, and 40 for each packet that it may have
abbrev pub reserve_of : Source → ℕ
reserve_of x = x.octets + packet_count x.packing * 40

-- the bits per second that are held for a stream, which are those of its track
abbrev pub held_rate : ℕ → Source → ℕ
held_rate unit_ms x = rate_of unit_ms x.octets x.packing

module _ {S : Type 0} (calls : Calls S) (way : ℕ → Way) (phase : Phase) (unit_ms : ℕ) where
  -- what the packets of a unit took that was sent
  abbrev pub packets_wire : (i : ℕ) (x : Source) (states after : List SenderState) (s u : S) → UnitSent calls phase unit_ms i x states after s u → ℕ
  packets_wire i x states after s u unit = sum_by (wire_of (way x.track)) (unit_packets x.packing x (sent_before phase) i states unit.octets)

  -- and the report behind it
  abbrev pub behind_wire : (i : ℕ) (x : Source) (states after : List SenderState) (s u : S) → UnitSent calls phase unit_ms i x states after s u → ℕ
  behind_wire i x states after s u unit = report_wire (way x.track) (report_behind x.packing phase unit_ms x i states unit.octets)

  -- the packets of a unit that was sent took no more than they may
  abbrev pub IsUnitWithin : Type 0
  IsUnitWithin = (i : ℕ) (x : Source) (states after : List SenderState) (s u : S) (unit : UnitSent calls phase unit_ms i x states after s u)
      → packets_wire i x states after s u unit ≤ reserve_of x

  -- what the packets of all units took that were sent one after another
  abbrev pub all_packets_wire : (xs : List (ℕ × Source)) (states after : List SenderState) (s u : S) → AllSent calls phase unit_ms xs states after s u → ℕ
  all_packets_wire [] states after s u all = 0
  all_packets_wire (x ∷ xs) states after s u all = packets_wire x.0 x.1 states all.0 s all.1 all.2 + all_packets_wire xs all.0 after all.1 u all.3

  -- and the reports behind them
  abbrev pub all_behind_wire : (xs : List (ℕ × Source)) (states after : List SenderState) (s u : S) → AllSent calls phase unit_ms xs states after s u → ℕ
  all_behind_wire [] states after s u all = 0
  all_behind_wire (x ∷ xs) states after s u all = behind_wire x.0 x.1 states all.0 s all.1 all.2 + all_behind_wire xs all.0 after all.1 u all.3

  -- the packets took together no more than they may
  abbrev pub AreWithin : Type 0
  AreWithin = (xs : List (ℕ × Source)) (states after : List SenderState) (s u : S) (all : AllSent calls phase unit_ms xs states after s u)
      → all_packets_wire xs states after s u all ≤ sum_by (λ x. reserve_of x.1) xs

  abbrev pub all_wire : (xs : List (ℕ × Source)) (states after : List SenderState) (s u : S) → AllSent calls phase unit_ms xs states after s u → ℕ
  all_wire xs states after s u all = all_packets_wire xs states after s u all + all_behind_wire xs states after s u all

-- The turns of a play, one after another, whatever sink each is given.

module _ {S : Type 0} (calls : Calls S) (way : ℕ → Way) where
  -- a turn of the pacer p that leaves it as q, at the latest at the moment m
  pub record OneTurn (m : ℕ) (p q : Pacing) : Type 0 where
    pub session : ℕ
    pub phase : Phase
    pub moment : ℕ
    pub by : moment ≤ m
    pub answer : Turn
    pub sink : S
    pub after : S
    pub turned : Turned calls p q session phase moment answer sink after

  pub record OneLastTurn (m : ℕ) (p q : Pacing) : Type 0 where
    pub session : ℕ
    pub phase : Phase
    pub moment : ℕ
    pub by : moment ≤ m
    pub answer : LastTurn
    pub sink : S
    pub after : S
    pub turned : LastTurned calls p q session phase moment answer sink after

  -- what a turn sent
  abbrev pub turned_wire : (p q : Pacing) (session : ℕ) (phase : Phase) (moment : ℕ) (answer : Turn) (s u : S) → Turned calls p q session phase moment answer s u → ℕ
  turned_wire p q session phase moment turns.More s u t = all_wire calls way p.phase p.unit_ms _ p.states q.states s u t.0.sends.sent
  turned_wire p q session phase moment turns.AtEnd s u t = all_wire calls way p.phase p.unit_ms _ p.states q.states s u t.0.sends.sent
  turned_wire p q session phase moment turns.OtherPlay s u t = 0
  turned_wire p q session phase moment turns.SinkFailed s u t = all_wire calls way p.phase p.unit_ms _ p.states q.states s t.sends.between t.sends.sent

  abbrev pub last_turned_wire : (p q : Pacing) (session : ℕ) (phase : Phase) (moment : ℕ) (answer : LastTurn) (s u : S) → LastTurned calls p q session phase moment answer s u → ℕ
  last_turned_wire p q session phase moment last_turns.Done s u t = all_wire calls way p.phase p.unit_ms _ p.states q.states s u (t.sends t.when t.left).sent
  last_turned_wire p q session phase moment last_turns.More s u t = all_wire calls way p.phase p.unit_ms _ p.states q.states s u (t.sends t.when t.left).sent
  last_turned_wire p q session phase moment last_turns.NotLeft s u t = 0
  last_turned_wire p q session phase moment last_turns.SinkFailed s u t = all_wire calls way p.phase p.unit_ms _ p.states q.states s (t.sends t.when t.left).between (t.sends t.when t.left).sent

  -- a turn of either kind, and what it sent
  abbrev pub AnyTurn : ℕ → Pacing → Pacing → Type 0
  AnyTurn m p q = OneTurn m p q ⊎ OneLastTurn m p q

  abbrev pub any_wire : (m : ℕ) (p q : Pacing) → AnyTurn m p q → ℕ
  any_wire m p q (inl t) = turned_wire p q t.session t.phase t.moment t.answer t.sink t.after t.turned
  any_wire m p q (inr t) = last_turned_wire p q t.session t.phase t.moment t.answer t.sink t.after t.turned

  -- turns up to the moment m, each behind the one before, which leave the pacer p as these
  abbrev pub AllTurns : ℕ → Pacing → List Pacing → Type 0
  AllTurns m p [] = Unit {0}
  AllTurns m p (q ∷ qs) = AnyTurn m p q × AllTurns m q qs

  -- what they sent together
  abbrev pub turns_wire : (m : ℕ) (p : Pacing) (qs : List Pacing) → AllTurns m p qs → ℕ
  turns_wire m p [] all = 0
  turns_wire m p (q ∷ qs) all = any_wire m p q all.0 + turns_wire m q qs all.1

  -- a play that begins with the pacer p has sent by any moment at most its held rate for the time since it began and one unit more, and a second's reports;
  -- bytes by 8000 against bits per second by milliseconds
  abbrev pub IsPlayWithin : Pacing → Type 0
  IsPlayWithin p = p.done ≡ 0 → p.states ≡ unsent_states → (m : ℕ) (qs : List Pacing) (all : AllTurns m p qs)
      → turns_wire m p qs all * 8000 ≤ sum_by (held_rate p.unit_ms) p.sources * (m - begun_at p.phase + p.unit_ms) + sum_by (λ x. report_rate x.packing) p.sources * 1000
