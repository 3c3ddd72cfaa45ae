-- PLAY (RFC 7826 section 13.4): a track; a presentation.
use Rattle.std.specs.Prelude.{ℕ, ◌+◌, ◌==◌, not, List, [], ◌∷◌, ◌++◌, length, codes, slice_get, Option, Some, None, Result, Ok, Err, if◌then◌else◌}
use Rattle.std.specs.Option.{option_and}
use Rattle.rtsp_state.specs.declared.status.Status.TheVariants.{BadRequest, SessionNotFound, MethodNotValid, HeaderNotValid, InvalidRange, OnlyAggregateAllowed}
use Rattle.rtsp_state.specs.declared.fault.Fault.{Fault}
use Rattle.rtsp_state.specs.declared.fault.Fault.TheVariants.{Refused}
use Rattle.rtsp_state.specs.declared.request.Target.{Target}
use Rattle.rtsp_state.specs.declared.request.Target.TheVariants as targets
use Rattle.rtsp_state.specs.declared.plan.Plan.{Plan}
use Rattle.rtsp_state.specs.declared.plan.Plan.TheVariants as plans
use Rattle.rtsp_text.specs.Results.{◌>>=◌}
use Rattle.rtsp_state.specs.Fault.{must}
use Rattle.rtsp_record.specs.Moments.{point}
use Rattle.rtsp_record.specs.declared.streams.Stream.{Stream}
use Rattle.rtsp_npt.specs.Reading.{range_of}
use Rattle.rtsp_npt.specs.Units.{units_of}
use Rattle.rtsp_npt.specs.declared.range.Range.{Range}
use Rattle.rtsp_npt.specs.declared.units.Span.{Span}
use Rattle.rtsp_npt.specs.declared.fault.RangeFault.{RangeFault}
use Rattle.rtsp_npt.specs.declared.fault.RangeFault.TheVariants as faults
use Rattle.rtsp_npt.specs.declared.fault.OutOfMedia.{OutOfMedia}
use Rattle.rtsp_content.specs.PresentationValue.{PresentationValue}
use Rattle.rtsp_content.specs.PackingLimits.{packet_count}
use Rattle.rtsp_content.specs.StartsValue.{start_at}
use Rattle.rtsp_content.specs.TrackValue.{TrackValue}
use Rattle.rtsp_book.specs.declared.steps.Step.TheVariants as steps
use Rattle.rtsp_state.specs.declared.play.Units.{Units}
use Rattle.rtsp_state.specs.declared.rtp_info.StreamInfo.{StreamInfo}
use Rattle.rtsp_state.specs.declared.step_plan.Details.TheVariants as details
use Rattle.rtsp_state.specs.Values.{single_value}
use Rattle.rtsp_state.specs.Context.{ContextValue, Living, streams_of, is_other, timing_of, known}

-- another unit than npt, a malformed text and `now` are refused
abbrev pub fault_of : RangeFault → Fault
fault_of faults.NotNpt = Refused HeaderNotValid
fault_of faults.BadNpt = Refused BadRequest
fault_of faults.Now = Refused InvalidRange

-- a range that was read, or that refusal
abbrev pub range_read : Result Range RangeFault → Result Range Fault
range_read (Ok range) = Ok range
range_read (Err fault) = Err (fault_of fault)

-- no Range header is the rest of the media
abbrev pub range_in : Option (List ℕ) → Result Range Fault
range_in None = Ok (record { start = None; stop = None })
range_in (Some value) = range_read (range_of value)

-- the units that are asked for lie in the media; a start that is written is the last one up to it where a play may begin (section 18.47),
-- and where none is written, the step starts at the point
abbrev pub units_in : Range → PresentationValue → Result Span OutOfMedia → Result Units Fault
units_in range p (Ok taken) = Ok (record { from = option_and range.start (Some (start_at p.starts taken.from)); stop = taken.stop })
units_in range p (Err outside) = Err (Refused InvalidRange)

-- the units that a request asks for
abbrev pub units_asked : ContextValue → Living → PresentationValue → Result Units Fault
units_asked context view p = do
  value ← single_value (codes "Range") context.headers
  range ← range_in value
  units_in range p (units_of range (point view.1.phase p.unit_ms context.moment) p.unit_ms p.units)

-- the stream of a track
abbrev pub stream_of : ℕ → List Stream → Option Stream
stream_of t [] = None
stream_of t (s ∷ ss) = if s.track == t then Some s else stream_of t ss

-- what RTP-Info says of a stream
abbrev pub stream_info : List ℕ → TrackValue → Stream → StreamInfo
stream_info base t s = record { url = base ++ t.name; ssrc = s.ssrc; seq = s.seq; packets = packet_count t.packing; rtptime = s.rtptime; ticks = t.ticks }

-- the same of a track, if it has a stream
abbrev pub stream_info_at : List ℕ → TrackValue → Option Stream → List StreamInfo
stream_info_at base t None = []
stream_info_at base t (Some s) = stream_info base t s ∷ []

-- one part a stream, in the order of the tracks, which are counted from i
abbrev pub rtp_info_from : List ℕ → List Stream → ℕ → List TrackValue → List StreamInfo
rtp_info_from base streams i [] = []
rtp_info_from base streams i (t ∷ ts) = stream_info_at base t (stream_of i streams) ++ rtp_info_from base streams (i + 1) ts

-- PLAY of a presentation by a session that has streams, all of them of it
abbrev pub play_presentation : ContextValue → Living → List ℕ → ℕ → Result Plan Fault
play_presentation context view base p = do
  same ← must (not (is_other p (streams_of view.1))) SessionNotFound
  some ← must (not (length (streams_of view.1) == 0)) MethodNotValid
  presentation ← known (slice_get context.table.presentations p)
  units ← units_asked context view presentation
  Ok (plans.Step (record {
    start = context.start;
    done = context.start;
    step = steps.Play (record { session = view.0; from = units.from; stop = units.stop; unit_ms = presentation.unit_ms; now = context.moment });
    details = details.Played (timing_of presentation) (rtp_info_from base (streams_of view.1) 0 presentation.tracks);
  }))

-- PLAY by its target: the tracks of a session are played together
abbrev pub play : ContextValue → Living → Target → Result Plan Fault
play context view (targets.Track base p t) = Err (Refused OnlyAggregateAllowed)
play context view (targets.Presentation base p) = play_presentation context view base p
play context view targets.Server = Err (Refused BadRequest)
play context view targets.Star = Err (Refused BadRequest)
