-- What a pacer knows of its play.
use Rattle.std.specs.Prelude.{◌≡◌, ℕ, ◌+◌, ◌-◌, ◌*◌, ◌<◌, ◌≤◌, zero, suc, true, if◌then◌else◌, List, [], ◌∷◌, ◌++◌, length, map, All, option_map, option_and_then, Option, Some, None}
use Rattle.std.specs.FinMap.{entries}
use Rattle.rtsp_record.specs.declared.phases.Phase.{Phase}
use Rattle.rtsp_record.specs.declared.phases.Phase.TheVariants.{Ready, Playing, Ended}
use Rattle.rtsp_record.specs.declared.holdings.Admission.{Admission}
use Rattle.rtsp_record.specs.Books.{Session}
use Rattle.rtsp_record.specs.Rules.{is_playing}
use Rattle.rtsp_sessions.specs.Searches.{first_with, is_of_track}
use Rattle.rtsp_content.specs.TrackValue.{TrackValue}
use Rattle.rtsp_content.specs.PresentationValue.{PresentationValue}
use Rattle.rtsp_content.specs.declared.limits.TheConstants.{MAX_TRACKS, MAX_UNIT_MS}
use Rattle.rtsp_rtp.specs.declared.source.Source.{Source}
use Rattle.rtsp_rtp.specs.Packets.{source_of}
use Rattle.rtsp_content.specs.PackingLimits.{IsPackedWithin}
use Rattle.rtsp_rtp.specs.declared.sender_state.SenderState.{SenderState}
use Rattle.rtsp_rtp.specs.SenderStates.{unsent_states}

-- the play of a session, what its streams have sent, and how many units of a source
pub record Pacing : Type 0 where
  pub session : ℕ
  pub phase : Phase
  pub unit_ms : ℕ
  pub sources : List Source
  pub states : List SenderState
  pub done : ℕ

-- The parts of a play; without one, nothing.

-- the moment at which it began
abbrev pub begun_at : Phase → ℕ
begun_at (Ready at sent) = 0
begun_at (Playing from stop sent since) = since
begun_at (Ended at sent) = 0

-- the first unit of the media that it has
abbrev pub first_unit : Phase → ℕ
first_unit (Ready at sent) = 0
first_unit (Playing from stop sent since) = from
first_unit (Ended at sent) = 0

-- how many units it has
abbrev pub units_in : Phase → ℕ
units_in (Ready at sent) = 0
units_in (Playing from stop sent since) = stop - from
units_in (Ended at sent) = 0

-- The sources of a play: the first stream of each track, in the order of the tracks.

-- the source of a track whose stream stands under an admission
abbrev pub source_under : TrackValue → Option (ℕ × Admission) → Option Source
source_under t o = option_map (source_of t) (option_and_then (λ e. e.1.stream) o)

-- with a source before others, where there is one
abbrev pub with_source : Option Source → List Source → List Source
with_source None xs = xs
with_source (Some x) xs = x ∷ xs

-- the sources of tracks that are counted from i
abbrev pub sources_from : Session → ℕ → List TrackValue → List Source
sources_from f i [] = []
sources_from f i (t ∷ ts) = with_source (source_under t (first_with (is_of_track i) (entries f.admissions))) (sources_from f (i + 1) ts)

-- the pacer of a session's play that is in this phase, with the streams that the session has now; the phase is one of a play
abbrev pub started : ℕ × Session → Phase → PresentationValue → Option Pacing
started v phase p =
    if is_playing phase
    then Some (record { session = v.0; phase = phase; unit_ms = p.unit_ms; sources = sources_from v.1 0 p.tracks; states = unsent_states; done = 0 })
    else None

-- the session and the phase are those that the pacer was made for
abbrev pub IsOfPlay : Pacing → ℕ → Phase → Type 0
IsOfPlay p session phase = (session ≡ p.session) × (phase ≡ p.phase)

-- how many units of a source the whole play has
abbrev pub packets_in : Pacing → ℕ
packets_in p = units_in p.phase * length p.sources

-- the numbers of a source are within their limits
pub record IsSourceWithin (x : Source) : Type 0 where
  pub packed : IsPackedWithin x.packing x.octets
  pub track : x.track < MAX_TRACKS

-- what is true of every pacer
pub record IsPacing (p : Pacing) : Type 0 where
  pub playing : is_playing p.phase ≡ true
  pub unit : 0 < p.unit_ms
  pub unit_most : p.unit_ms ≤ MAX_UNIT_MS
  pub few : length p.sources ≤ MAX_TRACKS
  pub sources : All IsSourceWithin p.sources
  pub states : length p.states ≡ MAX_TRACKS
  pub sent : p.done ≤ packets_in p

-- What is sent of a play: the unit of the play, and the source.

-- of n units from the unit i on: by unit, and then in the order of the sources
abbrev pub schedule : List Source → ℕ → ℕ → List (ℕ × Source)
schedule sources i zero = []
schedule sources i (suc n) = map (λ x. (i, x)) sources ++ schedule sources (i + 1) n
