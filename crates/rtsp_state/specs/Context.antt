-- What a row of the state table is decided from: the request, what is served, and the streams of the session.
use Rattle.std.specs.Prelude.{ℕ, ◌+◌, ◌*◌, ◌-◌, ◌^◌, ◌==◌, Bool, not, min, List, ◌++◌, filter_map, Option, Some, None, Result, Ok, Err}
use Rattle.std.specs.List.{list_any}
use Rattle.std.specs.FinMap.{entries}
use Rattle.rtsp_grammar.specs.Header.{HeaderText}
use Rattle.rtsp_record.specs.declared.streams.Stream.{Stream}
use Rattle.rtsp_record.specs.Books.{Session}
use Rattle.rtsp_content.specs.TableValue.{TableValue}
use Rattle.rtsp_content.specs.PresentationValue.{PresentationValue}
use Rattle.rtsp_state.specs.declared.status.Status.TheVariants.{Success, NotFound}
use Rattle.rtsp_state.specs.declared.fault.Fault.{Fault}
use Rattle.rtsp_state.specs.declared.fault.Fault.TheVariants.{Refused}
use Rattle.rtsp_state.specs.declared.response_start.ResponseStart.{ResponseStart}
use Rattle.rtsp_content.specs.StartsValue.{longest_gap}
use Rattle.rtsp_state.specs.declared.timing.Timing.{Timing}
use Rattle.rtsp_state.specs.declared.context.Context.{Context}
use Rattle.rtsp_state.specs.declared.plan.Plan.{Plan}
use Rattle.rtsp_state.specs.declared.plan.Plan.TheVariants as plans
use Rattle.rtsp_state.specs.Lines.{start_lines}
use Rattle.rtsp_state.specs.Response.{response}

pub record ContextValue : Type 0 where
  pub start : ResponseStart
  pub peer : ℕ
  pub moment : ℕ
  pub table : TableValue
  pub headers : List HeaderText
  pub body : List ℕ

abbrev pub context_value : Context → ContextValue
context_value s = record { start = s.start; peer = s.peer; moment = s.moment; table = s.table.now; headers = s.headers.now; body = s.body.now }

-- a living session, with its number
abbrev pub Living : Type 0
Living = ℕ × Session

-- the session's streams, in the order of their admissions' numbers
abbrev pub streams_of : Session → List Stream
streams_of f = filter_map (λ e. e.1.stream) (entries f.admissions)

-- some stream is of another presentation
abbrev pub is_other : ℕ → List Stream → Bool
is_other p streams = list_any (λ s. not (s.presentation == p)) streams

-- some stream is of the track
abbrev pub has_track : ℕ → List Stream → Bool
has_track t streams = list_any (λ s. s.track == t) streams

abbrev pub timing_of : PresentationValue → Timing
timing_of p = record { units = p.units; unit_ms = p.unit_ms; longest_gap = longest_gap p.starts p.units }

-- what is looked up has to be there
abbrev pub known : {A : Type 0} → Option A → Result A Fault
known (Some x) = Ok x
known None = Err (Refused NotFound)

-- a 200 with these headers behind the front
abbrev pub plainly : ContextValue → List HeaderText → List ℕ → Plan
plainly context lines body = plans.Answer (response Success (start_lines context.start ++ lines) body)

-- the moment at which a session ends if nothing renews it; a sum too great is the greatest moment
unfoldable pub expiry : ℕ → ℕ → ℕ
expiry moment timeout = min (moment + timeout * 1000) (2 ^ 64 - 1)
