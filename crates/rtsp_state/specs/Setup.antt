-- SETUP (RFC 7826 section 13.3): a presentation; a track.
use Rattle.std.specs.Prelude.{ℕ, not, List, codes, slice_get, Option, Some, None, Result, Ok, Err}
use Rattle.rtsp_state.specs.declared.status.Status.TheVariants.{BadRequest, MethodNotValid, AggregateNotAllowed, UnsupportedTransport, DestinationProhibited}
use Rattle.rtsp_state.specs.declared.fault.Fault.{Fault}
use Rattle.rtsp_state.specs.declared.fault.Fault.TheVariants.{Refused}
use Rattle.rtsp_state.specs.declared.request.Target.{Target}
use Rattle.rtsp_state.specs.declared.request.Target.TheVariants as targets
use Rattle.rtsp_state.specs.declared.plan.Plan.{Plan}
use Rattle.rtsp_state.specs.declared.plan.Plan.TheVariants as plans
use Rattle.rtsp_state.specs.declared.setup_plan.SetupSession.{SetupSession}
use Rattle.rtsp_state.specs.declared.setup_plan.SetupSession.TheVariants.{New, Living as Lives}
use Rattle.rtsp_state.specs.declared.setup_plan.Delivery.{Delivery}
use Rattle.rtsp_state.specs.declared.setup_plan.Delivery.TheVariants.{Udp, Mux, Interleaved}
use Rattle.rtsp_state.specs.declared.setup_plan.SetupPlan.{SetupPlan}
use Rattle.rtsp_text.specs.Results.{◌>>=◌}
use Rattle.rtsp_state.specs.Fault.{must}
use Rattle.rtsp_transport.specs.Picking.{pick_of}
use Rattle.rtsp_transport.specs.declared.picks.Pick.{Pick}
use Rattle.rtsp_transport.specs.declared.picks.Pick.TheVariants as picks
use Rattle.rtsp_content.specs.PresentationValue.{PresentationValue}
use Rattle.rtsp_content.specs.TrackValue.{TrackValue}
use Rattle.rtsp_content.specs.Rate.{rate_of}
use Rattle.rtsp_record.specs.Rules.{is_ready}
use Rattle.rtsp_state.specs.declared.request.Name.{Name}
use Rattle.rtsp_state.specs.declared.request.Name.TheVariants as names
use Rattle.rtsp_state.specs.Values.{joined_in, specs_in}
use Rattle.rtsp_state.specs.Context.{ContextValue, Living, streams_of, is_other, timing_of, known, expiry}

-- in a session that is Ready and has streams of this presentation alone, or in a new one
abbrev pub may_set_up : ℕ → Option Living → Result (Unit {0}) Fault
may_set_up p None = Ok tt
may_set_up p (Some view) = do
  ready ← must (is_ready view.1.phase) MethodNotValid
  must (not (is_other p (streams_of view.1))) AggregateNotAllowed

-- the transport that is picked has to be one that can be served
abbrev pub delivery_of : Pick → Result Delivery Fault
delivery_of (picks.Udp rtp rtcp) = Ok (Udp rtp rtcp)
delivery_of (picks.Mux port) = Ok (Mux port)
delivery_of (picks.Inter wish) = Ok (Interleaved wish)
delivery_of picks.Unsupported = Err (Refused UnsupportedTransport)
delivery_of picks.Prohibited = Err (Refused DestinationProhibited)

abbrev pub delivery_in : ℕ → Option (List ℕ) → Result Delivery Fault
delivery_in peer None = Err (Refused BadRequest)
delivery_in peer (Some value) = do
  specs ← specs_in value
  delivery_of (pick_of peer specs)

-- a new session gets the startup number that the request gives
abbrev pub startup_in : Option Name → Option ℕ
startup_in (Some (names.Startup n)) = Some n
startup_in (Some (names.Id i)) = None
startup_in None = None

-- a session is opened where none lives
abbrev pub session_of : ContextValue → Option Living → Option Name → SetupSession
session_of context (Some view) name = Lives (record { session = view.0; id = view.1.id })
session_of context None name = New (expiry context.moment context.table.server.timeout) (startup_in name)

abbrev pub setup_plan : ContextValue → SetupSession → ℕ → ℕ → Delivery → PresentationValue → TrackValue → SetupPlan
setup_plan context session p t delivery presentation track = record {
  cseq = context.start.cseq;
  session = session;
  rate = rate_of presentation.unit_ms track.octets track.packing;
  delivery = delivery;
  presentation = p;
  track = t;
  peer = context.peer;
  timeout = context.table.server.timeout;
  timing = timing_of presentation;
}

abbrev pub setup_track : ContextValue → Option Living → Option Name → ℕ → ℕ → Result Plan Fault
setup_track context view name p t = do
  free ← may_set_up p view
  delivery ← delivery_in context.peer (joined_in (codes "Transport") context.headers)
  presentation ← known (slice_get context.table.presentations p)
  track ← known (slice_get presentation.tracks t)
  Ok (plans.Admit (setup_plan context (session_of context view name) p t delivery presentation track))

abbrev pub setup : ContextValue → Option Living → Option Name → Target → Result Plan Fault
setup context view name (targets.Track base p t) = setup_track context view name p t
setup context view name (targets.Presentation base p) = Err (Refused AggregateNotAllowed)
setup context view name targets.Server = Err (Refused BadRequest)
setup context view name targets.Star = Err (Refused BadRequest)
