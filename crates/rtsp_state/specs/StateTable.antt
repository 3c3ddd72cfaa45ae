-- The state table: the plan of a request, after the places of the order of refusals that need no session.
use Rattle.std.specs.Prelude.{ℕ, not, Option, Some, None, Result, Ok, Err}
use Rattle.rtsp_content.specs.TableValue.{TableValue}
use Rattle.rtsp_state.specs.declared.method.Method.{Method}
use Rattle.rtsp_state.specs.declared.method.Method.TheVariants as methods
use Rattle.rtsp_state.specs.declared.status.Status.TheVariants.{SessionNotFound}
use Rattle.rtsp_state.specs.declared.fault.Fault.{Fault}
use Rattle.rtsp_state.specs.declared.fault.Fault.TheVariants.{Refused}
use Rattle.rtsp_state.specs.declared.request.Target.{Target}
use Rattle.rtsp_state.specs.declared.request.Name.{Name}
use Rattle.rtsp_state.specs.declared.request.Name.TheVariants.{Id, Startup}
use Rattle.rtsp_state.specs.declared.response_start.ResponseStart.{ResponseStart}
use Rattle.rtsp_state.specs.declared.plan.Plan.{Plan}
use Rattle.rtsp_state.specs.declared.plan.Plan.TheVariants as plans
use Rattle.rtsp_text.specs.Results.{◌>>=◌}
use Rattle.rtsp_state.specs.Fault.{must}
use Rattle.rtsp_state.specs.ParsedRequest.{ParsedValue}
use Rattle.rtsp_state.specs.Method.{needs_session}
use Rattle.rtsp_state.specs.Response.{refused}
use Rattle.rtsp_state.specs.Context.{ContextValue, Living}
use Rattle.rtsp_state.specs.Options.{options}
use Rattle.rtsp_state.specs.Describe.{describe}
use Rattle.rtsp_state.specs.Setup.{setup}
use Rattle.rtsp_state.specs.Play.{play}
use Rattle.rtsp_state.specs.Pause.{pause}
use Rattle.rtsp_state.specs.Teardown.{teardown}
use Rattle.rtsp_state.specs.GetParameter.{get_parameter}
use Rattle.rtsp_state.specs.SetParameter.{set_parameter}
use Rattle.rtsp_state.specs.Aim.{own_of, aimed}

-- 6. the session that is named by its id lives; an unbound startup number names none
abbrev pub session_found : Method → Option Name → Option Living → Result (Unit {0}) Fault
session_found method name (Some view) = Ok tt
session_found method (Some (Id i)) None = Err (Refused SessionNotFound)
session_found method (Some (Startup n)) None = must (not (needs_session method)) SessionNotFound
session_found method None None = must (not (needs_session method)) SessionNotFound

abbrev pub in_session : Option Living → Result Living Fault
in_session (Some view) = Ok view
in_session None = Err (Refused SessionNotFound)

-- 8. the method's own: a row of the state table
abbrev pub row : ContextValue → Method → Option Living → Option Name → Target → Result Plan Fault
row context methods.Options view name target = options context
row context methods.Describe view name target = describe context target
row context methods.Setup view name target = setup context view name target
row context methods.Teardown view name target = do
  living ← in_session view
  teardown context living target
row context methods.Play view name target = do
  living ← in_session view
  play context living target
row context methods.Pause view name target = do
  living ← in_session view
  pause context living target
row context methods.GetParameter view name target = get_parameter context view target
row context methods.SetParameter view name target = set_parameter context

-- 8, first: what is named has to be offered, or to be the session's own
abbrev pub cell : ContextValue → Method → Option Living → Option Name → Target → Result Plan Fault
cell context method view name target = do
  living ← session_found method name view
  aim ← aimed context.table (own_of method view) target
  row context method view name aim

abbrev pub shown_id : Option Living → Option ℕ
shown_id None = None
shown_id (Some view) = Some view.1.id

-- a refusal is answered
abbrev pub settled : ResponseStart → Result Plan Fault → Plan
settled start (Ok plan) = plan
settled start (Err fault) = plans.Answer (refused start fault)

abbrev pub start_of : ℕ → Option Living → ResponseStart
start_of cseq view = record { cseq = cseq; session = shown_id view }

abbrev pub context_of : TableValue → ParsedValue → Option Living → ℕ → ℕ → ContextValue
context_of table request view peer moment = record {
  start = start_of request.cseq view;
  peer = peer;
  moment = moment;
  table = table;
  headers = request.headers;
  body = request.body;
}

-- the plan of a request
unfoldable pub decide : TableValue → ParsedValue → Option Living → ℕ → ℕ → Plan
decide table request view peer moment =
    settled (start_of request.cseq view)
    (cell (context_of table request view peer moment) request.method view request.name request.target)
