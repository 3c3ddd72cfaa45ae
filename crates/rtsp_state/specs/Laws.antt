-- What holds of every answer.
use Rattle.std.specs.Prelude.{◌≡◌, ℕ, suc, Bool, true, false, ◌&&◌, IsTrue, nat_le, List, [], ◌∷◌, ◌++◌, map, filter, length, codes, decimal, Option, Some, None, Result, Ok, Err, if◌then◌else◌}
use Rattle.rtsp_book.specs.declared.refusals.Refusal.{Refusal}
use Rattle.rtsp_book.specs.declared.refusals.Refusal.TheVariants as refusals
use Rattle.rtsp_book.specs.declared.asks.Admitted.{Admitted}
use Rattle.rtsp_book.specs.declared.steps.Step.{Step}
use Rattle.rtsp_book.specs.declared.steps.Step.TheVariants as steps
use Rattle.rtsp_content.specs.TableValue.{TableValue}
use Rattle.rtsp_record.specs.declared.changes.Record.{Record}
use Rattle.rtsp_grammar.specs.Header.{HeaderText, values_of}
use Rattle.rtsp_grammar.specs.declared.message.Request.{Request}
use Rattle.rtsp_grammar.specs.declared.message.Response.{Response}
use Rattle.rtsp_text.specs.Hexadecimal.{hex_text}
use Rattle.rtsp_state.specs.declared.words.Field.{Field}
use Rattle.rtsp_state.specs.declared.words.Field.TheVariants as fields
use Rattle.rtsp_state.specs.declared.method.Method.{Method}
use Rattle.rtsp_state.specs.declared.method.Method.TheVariants as methods
use Rattle.rtsp_state.specs.declared.fault.Fault.{Fault}
use Rattle.rtsp_state.specs.declared.response_start.ResponseStart.{ResponseStart}
use Rattle.rtsp_state.specs.declared.step_plan.StepPlan.{StepPlan}
use Rattle.rtsp_state.specs.declared.setup_plan.SetupPlan.{SetupPlan}
use Rattle.rtsp_state.specs.declared.setup_plan.SetupSession.{SetupSession}
use Rattle.rtsp_state.specs.declared.setup_plan.SetupSession.TheVariants.{New, Living as Lives}
use Rattle.rtsp_state.specs.declared.setup_plan.SessionKey.{SessionKey}
use Rattle.rtsp_state.specs.declared.plan.Plan.{Plan}
use Rattle.rtsp_state.specs.declared.plan.Plan.TheVariants as plans
use Rattle.rtsp_state.specs.declared.request.Screen.TheVariants.{Answered, Asks}
use Rattle.rtsp_state.specs.Words.{name_of_field}
use Rattle.rtsp_grammar.specs.Method.{method_of as method_named}
use Rattle.rtsp_state.specs.Method.{method_of}
use Rattle.rtsp_state.specs.Status.{code, status_of}
use Rattle.rtsp_state.specs.OrderOfRefusals.{cseq_of}
use Rattle.rtsp_state.specs.Lines.{start_lines, public_line, allow_line}
use Rattle.rtsp_state.specs.Values.{joined}
use Rattle.rtsp_state.specs.Response.{refused, refusal_response}
use Rattle.rtsp_state.specs.Context.{Living, streams_of}
use Rattle.rtsp_state.specs.Screen.{screen}
use Rattle.rtsp_state.specs.ParsedRequest.{ParsedValue}
use Rattle.rtsp_state.specs.StateTable.{decide}
use Rattle.rtsp_state.specs.Renewal.{renewal_refused}
use Rattle.rtsp_state.specs.Answer.{step_answer, setup_answer}

-- a request that is decided, with all that it is decided by
pub record Asking : Type 0 where
  pub table : TableValue
  pub request : ParsedValue
  pub view : Option Living
  pub peer : ℕ
  pub moment : ℕ

abbrev pub plan_of : Asking → Plan
plan_of a = decide a.table a.request a.view a.peer a.moment

-- ---- what is read

-- what is handed on of a request is what it says: nothing of it is read again
pub record HandsOn (table : TableValue) (request : Request) (parsed : ParsedValue) : Type 0 where
  pub cseq : cseq_of request.headers ≡ Ok parsed.cseq
  pub method : method_of request.method ≡ Some parsed.method
  pub headers : parsed.headers ≡ request.headers
  pub body : parsed.body ≡ request.body

abbrev pub ReadsOnce : Type 0
ReadsOnce = (table : TableValue) (request : Request) (parsed : ParsedValue) → screen table request ≡ Asks parsed → HandsOn table request parsed

-- ---- statuses

-- a refused step, and a refused admission, is answered by its refusal's status
pub record AnswersRefusal : Type 0 where
  pub step : (plan : StepPlan) (r : Refusal) → (step_answer plan (Err r)).status ≡ code (status_of r)
  pub setup : (plan : SetupPlan) (source : Option ℕ) (drawn : SessionKey) (r : Refusal) → (setup_answer plan source drawn (Err r)).status ≡ code (status_of r)

-- a 455 shows which methods are refused in no state, and nothing else behind the front (RFC 7826 section 18.6)
abbrev pub ShowsAllowed : Type 0
ShowsAllowed =
    (start : ResponseStart) (fault : Fault) → (refused start fault).status ≡ 455 → (refused start fault).headers ≡ start_lines start ++ allow_line ∷ []

-- the methods that a 455 allows: OPTIONS, DESCRIBE, GET_PARAMETER and SET_PARAMETER
abbrev pub is_allowed : Method → Bool
is_allowed methods.Options = true
is_allowed methods.Describe = true
is_allowed methods.GetParameter = true
is_allowed methods.SetParameter = true
is_allowed methods.Setup = false
is_allowed methods.Play = false
is_allowed methods.Pause = false
is_allowed methods.Teardown = false

-- all methods, with their names
abbrev pub all_methods : List Method
all_methods =
    methods.Options ∷ methods.Describe ∷ methods.Setup ∷ methods.Play ∷
    methods.Pause ∷ methods.Teardown ∷ methods.GetParameter ∷ methods.SetParameter ∷ []

abbrev pub name_of_method : Method → List ℕ
name_of_method methods.Options = codes "OPTIONS"
name_of_method methods.Describe = codes "DESCRIBE"
name_of_method methods.Setup = codes "SETUP"
name_of_method methods.Play = codes "PLAY"
name_of_method methods.Pause = codes "PAUSE"
name_of_method methods.Teardown = codes "TEARDOWN"
name_of_method methods.GetParameter = codes "GET_PARAMETER"
name_of_method methods.SetParameter = codes "SET_PARAMETER"

-- an answer as it stands, other than 455
abbrev pub IsValidAnswer : Plan → Type 0
IsValidAnswer (plans.Answer given) = ¬ (given.status ≡ 455)
IsValidAnswer (plans.Step s) = ⊥
IsValidAnswer (plans.Admit a) = ⊥

-- what a 455 allows is answered in each state, and never by 455
pub record AllowedIsValid : Type 0 where
  -- Allow names just these, and Public all (RFC 7826 sections 18.6 and 18.39)
  pub allowed : allow_line.value ≡ joined (map name_of_method (filter is_allowed all_methods))
  pub served : public_line.value ≡ joined (map name_of_method all_methods)
  pub named : (m : Method) → method_of (method_named (name_of_method m)) ≡ Some m
  -- before a session is looked at no request is answered so
  pub screened : (table : TableValue) (request : Request) (given : Response) → screen table request ≡ Answered given → ¬ (given.status ≡ 455)
  -- the plan is an answer, of whatever state the session is in
  pub planned : (a : Asking) → IsTrue (is_allowed a.request.method) → IsValidAnswer (plan_of a)

-- ---- the order of headers

-- the place of each header
abbrev pub index_of : Field → ℕ
index_of fields.CSeq = 0
index_of fields.Session = 1
index_of fields.Public = 2
index_of fields.Allow = 3
index_of fields.Unsupported = 4
index_of fields.Transport = 5
index_of fields.AcceptRanges = 6
index_of fields.MediaProperties = 7
index_of fields.MediaRange = 8
index_of fields.Range = 9
index_of fields.SeekStyle = 10
index_of fields.RtpInfo = 11
index_of fields.ContentBase = 12
index_of fields.ContentType = 13
index_of fields.ContentLength = 14

-- each place is above the one before, and the first is this one or above
abbrev pub is_ascending : ℕ → List Field → Bool
is_ascending least [] = true
is_ascending least (f ∷ fs) = nat_le least (index_of f) && is_ascending (suc (index_of f)) fs

-- the headers have the names of such fields
pub record AreFrom (least : ℕ) (headers : List HeaderText) : Type 0 where
  pub fields : List Field
  pub names : map (λ h. h.name) headers ≡ map name_of_field fields
  pub ascending : IsTrue (is_ascending least fields)

abbrev pub AreInOrder : List HeaderText → Type 0
AreInOrder headers = AreFrom 0 headers

-- the headers of every response stand in their order
pub record AnswersInOrder : Type 0 where
  -- before a session is looked up, and where its renewal was refused
  pub screened : (table : TableValue) (request : Request) (given : Response) → screen table request ≡ Answered given → AreInOrder given.headers
  pub renewal : (request : ParsedValue) (view : Living) (r : Refusal) → AreInOrder (renewal_refused request view r).headers
  -- a plan that is an answer
  pub planned : (a : Asking) (given : Response) → plan_of a ≡ plans.Answer given → AreInOrder given.headers
  -- a step and an admission, whatever came of them
  pub stepped : (plan : StepPlan) (made : Result (List Record) Refusal) → AreInOrder (step_answer plan made).headers
  pub set_up : (plan : SetupPlan) (source : Option ℕ) (drawn : SessionKey) (made : Result Admitted Refusal)
      → AreInOrder (setup_answer plan source drawn made).headers
  -- a refusal, and a refused step
  pub fault : (start : ResponseStart) (f : Fault) → AreInOrder (refused start f).headers
  pub refusal : (start : ResponseStart) (r : Refusal) → AreInOrder (refusal_response start r).headers

-- ---- the session

-- the values of a response's Session headers (RFC 7826 section 18.49)
abbrev pub sessions_in : Response → List (List ℕ)
sessions_in given = values_of (codes "Session") given.headers

-- a living session is shown by its id
abbrev pub shown : Option Living → List (List ℕ)
shown None = []
shown (Some v) = hex_text 32 v.1.id ∷ []

-- with the seconds that it lives without a request
abbrev pub timed : ℕ → ℕ → List (List ℕ)
timed id timeout = (hex_text 32 id ++ codes ";timeout=" ++ decimal timeout) ∷ []

-- a session that is found gone is shown no more
abbrev pub still_shown : Option Living → Refusal → List (List ℕ)
still_shown view refusals.NoSession = []
still_shown view other = shown view

-- a step by which the session ends: its end, and the drop of its only stream
abbrev pub ends : Living → Step → Bool
ends v (steps.End session) = true
ends v (steps.DropTrack session track) = nat_le (length (streams_of v.1)) 1
ends v other = false

-- the session of a step
abbrev pub session_in : Step → Option ℕ
session_in (steps.Play play) = Some play.session
session_in (steps.Pause session unit_ms now) = Some session
session_in (steps.End session) = Some session
session_in (steps.DropTrack session track) = Some session
session_in other = None

-- a step is in the living session, and in no other
abbrev pub StepsIn : Option Living → Step → Type 0
StepsIn None step = ⊥
StepsIn (Some v) step = session_in step ≡ Some v.0

-- a track is set up in the living session, by its number and its id, else in a new one
abbrev pub SetsUpIn : Option Living → SetupSession → Type 0
SetsUpIn None (New expires startup) = Unit {0}
SetsUpIn None (Lives key) = ⊥
SetsUpIn (Some v) session = session ≡ Lives (record { session = v.0; id = v.1.id })

-- the id of the living session, or the one that was drawn
abbrev pub id_in : Option Living → SessionKey → ℕ
id_in None drawn = drawn.id
id_in (Some v) drawn = v.1.id

-- what is shown once a step is made: the living session, unless it has ended
abbrev pub left_of : Living → Step → List (List ℕ)
left_of v step = if ends v step then [] else shown (Some v)

-- once a session is looked up, it stands in a response exactly where it then lives or was opened
pub record ShowsSession : Type 0 where
  -- before a session is looked up none is shown
  pub screened : (table : TableValue) (request : Request) (given : Response) → screen table request ≡ Answered given → sessions_in given ≡ []
  -- where its renewal was refused, and by an answer at once, the living session is
  pub renewal : (request : ParsedValue) (view : Living) (r : Refusal) → sessions_in (renewal_refused request view r) ≡ still_shown (Some view) r
  pub planned : (a : Asking) (given : Response) → plan_of a ≡ plans.Answer given → sessions_in given ≡ shown a.view
  -- a step is made in the living session, and shows it unless it ends
  pub steps_in : (a : Asking) (plan : StepPlan) → plan_of a ≡ plans.Step plan → StepsIn a.view plan.step
  pub done : (a : Asking) (plan : StepPlan) (v : Living) (receipt : List Record) → plan_of a ≡ plans.Step plan → a.view ≡ Some v
      → sessions_in (step_answer plan (Ok receipt)) ≡ left_of v plan.step
  pub undone : (a : Asking) (plan : StepPlan) (r : Refusal) → plan_of a ≡ plans.Step plan
      → sessions_in (step_answer plan (Err r)) ≡ still_shown a.view r
  -- an admission opens a session exactly where none lives, and shows the one that it opened or found
  pub sets_up : (a : Asking) (plan : SetupPlan) → plan_of a ≡ plans.Admit plan → SetsUpIn a.view plan.session
  pub set_up : (a : Asking) (plan : SetupPlan) (source : Option ℕ) (drawn : SessionKey) (made : Admitted) → plan_of a ≡ plans.Admit plan
      → sessions_in (setup_answer plan source drawn (Ok made)) ≡ timed (id_in a.view drawn) a.table.server.timeout
  pub refused_setup : (a : Asking) (plan : SetupPlan) (source : Option ℕ) (drawn : SessionKey) (r : Refusal) → plan_of a ≡ plans.Admit plan
      → sessions_in (setup_answer plan source drawn (Err r)) ≡ still_shown a.view r
