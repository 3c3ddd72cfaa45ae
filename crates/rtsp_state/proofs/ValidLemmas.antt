-- What a 455 allows is never answered by 455.
use Rattle.std.proofs.Common.{◌≡◌, ℕ, zero, suc, Bool, true, false, arith, List, [], ◌∷◌, Option, Some, None, Result, Ok, Err, refl, subst}
use Rattle.std.specs.Prelude.{map, filter, IsTrue, not, nat_lt, ◌||◌, ◌==◌, length, codes, bytes_eq, slice_get, is_some}
use Rattle.std.specs.List.{list_any}
use Rattle.rtsp_grammar.specs.Header.{HeaderText, values_of}
use Rattle.rtsp_grammar.specs.declared.message.Request.{Request}
use Rattle.rtsp_grammar.specs.declared.message.Response.{Response}
use Rattle.rtsp_text.specs.Decimal.{number_of}
use Rattle.rtsp_transport.specs.Tags.{tags_of}
use Rattle.rtsp_transport.specs.declared.fault.TextFault.{TextFault}
use Rattle.rtsp_transport.specs.declared.fault.TextFault.TheVariants as texts
use Rattle.rtsp_content.specs.TableValue.{TableValue}
use Rattle.rtsp_content.specs.Paths.{find_of}
use Rattle.rtsp_content.specs.declared.found.Found.{Found}
use Rattle.rtsp_content.specs.declared.found.Found.TheVariants as found
use Rattle.url.specs.Parts.{Parts}
use Rattle.rtsp_state.specs.declared.method.Method.{Method}
use Rattle.rtsp_state.specs.declared.method.Method.TheVariants as methods
use Rattle.rtsp_state.specs.declared.status.Status.TheVariants as statuses
use Rattle.rtsp_state.specs.declared.fault.Fault.{Fault}
use Rattle.rtsp_state.specs.declared.fault.Fault.TheVariants as faults
use Rattle.rtsp_state.specs.declared.request.Target.{Target}
use Rattle.rtsp_state.specs.declared.request.Target.TheVariants as targets
use Rattle.rtsp_state.specs.declared.request.Name.{Name}
use Rattle.rtsp_state.specs.declared.request.Name.TheVariants as names
use Rattle.rtsp_state.specs.declared.order_of_refusals.Asked.{Asked}
use Rattle.rtsp_state.specs.declared.response_start.ResponseStart.{ResponseStart}
use Rattle.rtsp_state.specs.declared.plan.Plan.{Plan}
use Rattle.rtsp_state.specs.declared.request.Screen.{Screen}
use Rattle.rtsp_state.specs.declared.request.Screen.TheVariants.{Answered, Asks}
use Rattle.rtsp_text.specs.Results.{◌>>=◌}
use Rattle.rtsp_state.specs.Fault.{must}
use Rattle.rtsp_grammar.specs.Method.{method_of as method_named}
use Rattle.rtsp_grammar.specs.declared.version.Version.{Version}
use Rattle.rtsp_grammar.specs.declared.version.Version.TheVariants as versions
use Rattle.rtsp_state.specs.Method.{method_of, needs_session}
use Rattle.rtsp_state.specs.Values.{joined, single_value, joined_in, id_of, session_name, tags_in, read_by, uri_of, bare_text, with_slash, unknown_tags}
use Rattle.rtsp_state.specs.OrderOfRefusals.{formed, version_rule, served, unless_unknown, require_of_value, require_rule, target_at, media_of, target_of, named, startup_named, name_of_values, name_of, cseq_of, asked_of}
use Rattle.rtsp_state.specs.Status.{code}
use Rattle.rtsp_state.specs.Response.{refused}
use Rattle.rtsp_state.specs.Context.{ContextValue, Living, known}
use Rattle.rtsp_state.specs.Screen.{screen, screened}
use Rattle.rtsp_state.specs.Describe.{describe}
use Rattle.rtsp_state.specs.GetParameter.{parameter_of, parameters_in, first_line, is_position, get_parameter_body, get_parameters}
use Rattle.rtsp_state.specs.SetParameter.{set_parameter}
use Rattle.rtsp_content.specs.Offering.{meant_of, track_as}
use Rattle.rtsp_state.specs.Aim.{own_of, meant, meant_track, aimed}
use Rattle.rtsp_state.specs.StateTable.{session_found, row, cell, settled, context_of, start_of, decide}
use Rattle.rtsp_state.specs.Words.{text_of}
use Rattle.rtsp_state.specs.Lines.{public_line, allow_line}
use Rattle.rtsp_state.specs.Laws.{Asking, plan_of, is_allowed, all_methods, name_of_method, IsValidAnswer, AllowedIsValid, HandsOn, ReadsOnce}
use Rattle.rtsp_state.proofs.RuleLemmas.{Rules, Faults, Whatever, chain, follow, faults_chain, must_faults, known_faults, either, either_faults}

-- ---- faults

-- the fault of a method that isn't valid in a state
abbrev is_455 : Fault → Bool
is_455 (faults.Refused statuses.MethodNotValid) = true
is_455 other = false

abbrev Not455 : Fault → Type 0
Not455 f = is_455 f ≡ false

refused_valid : (start : ResponseStart) (f : Fault) → Not455 f → ¬ ((refused start f).status ≡ 455)
refused_valid start (faults.Refused statuses.Success) n e = absurd (omega (arith, e))
refused_valid start (faults.Refused statuses.BadRequest) n e = absurd (omega (arith, e))
refused_valid start (faults.Refused statuses.NotFound) n e = absurd (omega (arith, e))
refused_valid start (faults.Refused statuses.ParameterNotUnderstood) n e = absurd (omega (arith, e))
refused_valid start (faults.Refused statuses.NotEnoughBandwidth) n e = absurd (omega (arith, e))
refused_valid start (faults.Refused statuses.SessionNotFound) n e = absurd (omega (arith, e))
refused_valid start (faults.Refused statuses.MethodNotValid) n e = absurd cc
refused_valid start (faults.Refused statuses.HeaderNotValid) n e = absurd (omega (arith, e))
refused_valid start (faults.Refused statuses.InvalidRange) n e = absurd (omega (arith, e))
refused_valid start (faults.Refused statuses.AggregateNotAllowed) n e = absurd (omega (arith, e))
refused_valid start (faults.Refused statuses.OnlyAggregateAllowed) n e = absurd (omega (arith, e))
refused_valid start (faults.Refused statuses.UnsupportedTransport) n e = absurd (omega (arith, e))
refused_valid start (faults.Refused statuses.DestinationProhibited) n e = absurd (omega (arith, e))
refused_valid start (faults.Refused statuses.ServerError) n e = absurd (omega (arith, e))
refused_valid start (faults.Refused statuses.NotImplemented) n e = absurd (omega (arith, e))
refused_valid start (faults.Refused statuses.Unavailable) n e = absurd (omega (arith, e))
refused_valid start (faults.Refused statuses.VersionNotSupported) n e = absurd (omega (arith, e))
refused_valid start (faults.Refused statuses.OptionNotSupported) n e = absurd (omega (arith, e))
refused_valid start (faults.Unsupported tags) n e = absurd (omega (arith, e))
refused_valid start faults.OutOfMemory n e = absurd (omega (arith, e))

-- ---- before a session is looked at

formed_valid : {A : Type 0} (o : Option A) → Faults Not455 (formed o)
formed_valid (Some x) = tt
formed_valid None = refl

one_valid : (name : List ℕ) (headers : List HeaderText) → Faults Not455 (single_value name headers)
one_valid name headers = either_faults Not455 (nat_lt 1 (length (values_of name headers))) _ _ refl tt

read_valid : {X : Type 0} (r : Result X TextFault) → Faults Not455 (read_by r)
read_valid (Ok x) = tt
read_valid (Err texts.Malformed) = refl
read_valid (Err texts.OutOfMemory) = refl

tags_valid : (value : List ℕ) → Faults Not455 (tags_in value)
unfolding tags_in
tags_valid value = read_valid (tags_of value)

known_valid : (tags : List (List ℕ)) → Faults Not455 (unless_unknown tags)
known_valid [] = tt
known_valid (tag ∷ tags) = refl

require_valid : (value : Option (List ℕ)) → Faults Not455 (require_of_value value)
require_valid None = tt
require_valid (Some value) = faults_chain Not455 (tags_in value) _ (tags_valid value) (λ tags. known_valid (unknown_tags tags))

found_valid : (base : List ℕ) (f : Found) → Faults Not455 (target_at base f)
found_valid base (found.Presentation p) = tt
found_valid base (found.Track p t) = tt
found_valid base found.Nothing = refl

media_valid : (table : TableValue) (url : Option Parts) → Faults Not455 (media_of table url)
media_valid table (Some url) = found_valid (with_slash (bare_text url)) (find_of table url.path)
media_valid table None = refl

aim_valid : (table : TableValue) (m : Method) (text : List ℕ) → Faults Not455 (target_of table m text)
aim_valid table methods.Options text = tt
aim_valid table methods.Describe text = either_faults Not455 (bytes_eq text (codes "*")) _ _ refl (media_valid table (uri_of text))
aim_valid table methods.Setup text = either_faults Not455 (bytes_eq text (codes "*")) _ _ refl (media_valid table (uri_of text))
aim_valid table methods.Play text = either_faults Not455 (bytes_eq text (codes "*")) _ _ refl (media_valid table (uri_of text))
aim_valid table methods.Pause text = either_faults Not455 (bytes_eq text (codes "*")) _ _ refl (media_valid table (uri_of text))
aim_valid table methods.Teardown text = either_faults Not455 (bytes_eq text (codes "*")) _ _ refl (media_valid table (uri_of text))
aim_valid table methods.GetParameter text = either_faults Not455 (bytes_eq text (codes "*")) _ _ tt (media_valid table (uri_of text))
aim_valid table methods.SetParameter text = either_faults Not455 (bytes_eq text (codes "*")) _ _ tt (media_valid table (uri_of text))

named_valid : (id : Option ℕ) → Faults Not455 (named id)
named_valid None = refl
named_valid (Some id) = tt

startup_valid : (m : Method) (value : Option (List ℕ)) → Faults Not455 (startup_named m value)
startup_valid m (Some value) = faults_chain Not455 (formed (number_of 8 value)) _ (formed_valid (number_of 8 value)) (λ n. tt)
startup_valid m None = faults_chain Not455 (must (not (needs_session m)) statuses.SessionNotFound) _ (must_faults Not455 (not (needs_session m)) statuses.SessionNotFound refl) (λ u. tt)

name_of_valid : (m : Method) (headers : List HeaderText) (value : Option (List ℕ)) → Faults Not455 (name_of_values m headers value)
name_of_valid m headers (Some value) = faults_chain Not455 (formed (session_name value)) _ (formed_valid (session_name value)) (λ name. named_valid (id_of name))
name_of_valid m headers None = faults_chain Not455 (single_value (codes "Pipelined-Requests") headers) _ (one_valid (codes "Pipelined-Requests") headers) (λ value. startup_valid m value)

name_valid : (m : Method) (headers : List HeaderText) → Faults Not455 (name_of m headers)
name_valid m headers = faults_chain Not455 (single_value (codes "Session") headers) _ (one_valid (codes "Session") headers) (λ value. name_of_valid m headers value)

-- what is asked is of the method that the request names
abbrev OfMethod : Option Method → Asked → Type 0
OfMethod None asked = Unit {0}
OfMethod (Some m) asked = asked.method ≡ m

served_of : (o : Option Method) (f : Method → Result Asked Fault) → ((m : Method) → Rules (OfMethod (Some m)) Not455 (f m)) → Rules (OfMethod o) Not455 (served o >>= f)
served_of None f rest = refl
served_of (Some m) f rest = rest m

version_valid : (v : Version) → Faults Not455 (version_rule v)
version_valid versions.Rtsp2 = tt
version_valid (versions.Other text) = refl

asked_valid : (table : TableValue) (request : Request) → Rules (OfMethod (method_of request.method)) Not455 (asked_of table request)
unfolding asked_of
asked_valid table request =
    chain (OfMethod (method_of request.method)) Not455 (version_rule request.version) _ (version_valid request.version)
    λ version. served_of (method_of request.method) _
    λ m. chain (OfMethod (Some m)) Not455 (require_rule request.headers) _ (require_valid (joined_in (codes "Require") request.headers))
    λ require. chain (OfMethod (Some m)) Not455 (target_of table m request.uri) _ (aim_valid table m request.uri)
    λ target. chain (OfMethod (Some m)) Not455 (name_of m request.headers) _ (name_valid m request.headers)
    λ name. refl

abbrev ValidIf : Screen → Type 0
ValidIf (Answered given) = ¬ (given.status ≡ 455)
ValidIf (Asks name) = Unit {0}

screened_valid : (m : Option Method) (request : Request) (cseq : Result ℕ Fault) (asked : Result Asked Fault) → Rules (OfMethod m) Not455 asked → ValidIf (screened request cseq asked)
screened_valid m request (Err f) asked valid = λ e. absurd (omega (arith, e))
screened_valid m request (Ok cseq) (Err f) valid = refused_valid (record { cseq = cseq; session = None }) f valid
screened_valid m request (Ok cseq) (Ok asked) valid = tt

screen_valid : (table : TableValue) (request : Request) (given : Response) → screen table request ≡ Answered given → ¬ (given.status ≡ 455)
unfolding screen
screen_valid table request given e = subst (λ (s : Screen). ValidIf s) e (screened_valid (method_of request.method) request (cseq_of request.headers) (asked_of table request) (asked_valid table request))

-- ---- the rows

success : ¬ (code statuses.Success ≡ 455)
success e = absurd (omega (arith, e))

describe_valid : (context : ContextValue) (target : Target) → Rules IsValidAnswer Not455 (describe context target)
describe_valid context targets.Server = refl
describe_valid context targets.Star = refl
describe_valid context (targets.Track base p t) = refl
describe_valid context (targets.Presentation base p) =
    chain IsValidAnswer Not455 (known (slice_get context.table.presentations p)) _ (known_faults Not455 (slice_get context.table.presentations p) refl)
    λ presentation. success

set_parameter_valid : (context : ContextValue) → Rules IsValidAnswer Not455 (set_parameter context)
set_parameter_valid context =
    chain IsValidAnswer Not455 (must (length context.body == 0) statuses.ParameterNotUnderstood) _ (must_faults Not455 (length context.body == 0) statuses.ParameterNotUnderstood refl)
    λ u. success

parameter_valid : (name : List ℕ) → Faults Not455 (parameter_of name)
parameter_valid name = either_faults Not455 (bytes_eq name (codes "position")) _ _ tt (either_faults Not455 (bytes_eq name (codes "duration")) _ _ tt refl)

parameters_valid : (n : ℕ) (text : List ℕ) → Faults Not455 (parameters_in n text)
unfolding parameters_in
parameters_valid n [] = tt
parameters_valid zero (b ∷ bytes) = refl
parameters_valid (suc n) (b ∷ bytes) =
    faults_chain Not455 (parameter_of (first_line (b ∷ bytes)).0) _ (parameter_valid (first_line (b ∷ bytes)).0)
    λ first. faults_chain Not455 (parameters_in n (first_line (b ∷ bytes)).1) _ (parameters_valid n (first_line (b ∷ bytes)).1)
    λ others. tt

get_parameters_valid : (context : ContextValue) (view : Option Living) (p : ℕ) → Rules IsValidAnswer Not455 (get_parameters context view p)
get_parameters_valid context view p =
    chain IsValidAnswer Not455 (parameters_in 64 context.body) _ (parameters_valid 64 context.body)
    λ names. chain IsValidAnswer Not455 (must (is_some view || not (list_any is_position names)) statuses.SessionNotFound) _ (must_faults Not455 (is_some view || not (list_any is_position names)) statuses.SessionNotFound refl)
    λ living. chain IsValidAnswer Not455 (known (slice_get context.table.presentations p)) _ (known_faults Not455 (slice_get context.table.presentations p) refl)
    λ presentation. success

get_parameter_body_valid : (context : ContextValue) (view : Option Living) (target : Target) → Rules IsValidAnswer Not455 (get_parameter_body context view target)
get_parameter_body_valid context view (targets.Presentation base p) = get_parameters_valid context view p
get_parameter_body_valid context view (targets.Track base p t) = get_parameters_valid context view p
get_parameter_body_valid context view targets.Star = refl
get_parameter_body_valid context view targets.Server = refl

row_valid : (context : ContextValue) (m : Method) (view : Option Living) (name : Option Name) (target : Target) → IsTrue (is_allowed m) → Rules IsValidAnswer Not455 (row context m view name target)
row_valid context methods.Options view name target allowed = success
row_valid context methods.Describe view name target allowed = describe_valid context target
row_valid context methods.GetParameter view name target allowed =
    either IsValidAnswer Not455 (length context.body == 0) _ _ success (get_parameter_body_valid context view target)
row_valid context methods.SetParameter view name target allowed = set_parameter_valid context
row_valid context methods.Setup view name target allowed = absurd cc
row_valid context methods.Play view name target allowed = absurd cc
row_valid context methods.Pause view name target allowed = absurd cc
row_valid context methods.Teardown view name target allowed = absurd cc

present_valid : (m : Method) (name : Option Name) (view : Option Living) → Faults Not455 (session_found m name view)
present_valid m name (Some view) = tt
present_valid m (Some (names.Id i)) None = refl
present_valid m (Some (names.Startup n)) None = must_faults Not455 (not (needs_session m)) statuses.SessionNotFound refl
present_valid m None None = must_faults Not455 (not (needs_session m)) statuses.SessionNotFound refl

aimed_valid : (table : TableValue) (own : Option ℕ) (target : Target) → Faults Not455 (aimed table own target)
aimed_valid table own (targets.Presentation base p) = faults_chain Not455 (meant table own p) _ (known_faults Not455 (meant_of table own p) refl) (λ q. tt)
aimed_valid table own (targets.Track base p t) =
    faults_chain Not455 (meant table own p) _ (known_faults Not455 (meant_of table own p) refl)
    λ q. faults_chain Not455 (meant_track table p t q) _ (known_faults Not455 (track_as table p t q) refl) (λ u. tt)
aimed_valid table own targets.Server = tt
aimed_valid table own targets.Star = tt

cell_valid : (context : ContextValue) (m : Method) (view : Option Living) (name : Option Name) (target : Target) → IsTrue (is_allowed m) → Rules IsValidAnswer Not455 (cell context m view name target)
cell_valid context m view name target allowed =
    chain IsValidAnswer Not455 (session_found m name view) _ (present_valid m name view)
    λ living. chain IsValidAnswer Not455 (aimed context.table (own_of m view) target) _ (aimed_valid context.table (own_of m view) target)
    λ aim. row_valid context m view name aim allowed

-- ---- what is decided

settled_valid : (start : ResponseStart) (rules : Result Plan Fault) → Rules IsValidAnswer Not455 rules → IsValidAnswer (settled start rules)
settled_valid start (Ok plan) valid = valid
settled_valid start (Err f) valid = refused_valid start f valid

plan_valid : (a : Asking) → IsTrue (is_allowed a.request.method) → IsValidAnswer (plan_of a)
unfolding decide
plan_valid a allowed =
    let context = context_of a.table a.request a.view a.peer a.moment in
    settled_valid (start_of a.request.cseq a.view) (cell context a.request.method a.view a.request.name a.request.target)
    (cell_valid context a.request.method a.view a.request.name a.request.target allowed)

-- ---- what Allow names

allowed : allow_line.value ≡ joined (map name_of_method (filter is_allowed all_methods))
unfolding text_of
allowed = refl

served_names : public_line.value ≡ joined (map name_of_method all_methods)
unfolding text_of
served_names = refl

names_itself : (m : Method) → method_of (method_named (name_of_method m)) ≡ Some m
unfolding method_named
names_itself methods.Options = refl
names_itself methods.Describe = refl
names_itself methods.Setup = refl
names_itself methods.Play = refl
names_itself methods.Pause = refl
names_itself methods.Teardown = refl
names_itself methods.GetParameter = refl
names_itself methods.SetParameter = refl

pub allowed_is_valid : AllowedIsValid
allowed_is_valid = record {
  allowed = allowed;
  served = served_names;
  named = names_itself;
  screened = screen_valid;
  planned = plan_valid;
}

-- ---- what is handed on

abbrev HandsOnIf : TableValue → Request → Screen → Type 0
HandsOnIf table request (Answered given) = Unit {0}
HandsOnIf table request (Asks parsed) = HandsOn table request parsed

asked_method : (table : TableValue) (request : Request) → Rules (λ (asked : Asked). method_of request.method ≡ Some asked.method) Whatever (asked_of table request)
unfolding asked_of
asked_method table request =
    follow (λ (asked : Asked). method_of request.method ≡ Some asked.method) (version_rule request.version) _
    λ version. of_served (method_of request.method) refl
  where
    read : (m : Method) → method_of request.method ≡ Some m → Rules (λ (asked : Asked). method_of request.method ≡ Some asked.method) Whatever (require_rule request.headers >>= λ require. target_of table m request.uri >>= λ target. name_of m request.headers >>= λ name. Ok (record { method = m; target = target; name = name }))
    read m is =
        follow (λ (asked : Asked). method_of request.method ≡ Some asked.method) (require_rule request.headers) _
        λ require. follow (λ (asked : Asked). method_of request.method ≡ Some asked.method) (target_of table m request.uri) _
        λ target. follow (λ (asked : Asked). method_of request.method ≡ Some asked.method) (name_of m request.headers) _
        λ name. is

    of_served : (o : Option Method) → method_of request.method ≡ o → Rules (λ (asked : Asked). method_of request.method ≡ Some asked.method) Whatever (served o >>= λ m. require_rule request.headers >>= λ require. target_of table m request.uri >>= λ target. name_of m request.headers >>= λ name. Ok (record { method = m; target = target; name = name }))
    of_served None is = tt
    of_served (Some m) is = read m is

hands_on : (table : TableValue) (request : Request) (cseq : Result ℕ Fault) (asked : Result Asked Fault) → cseq_of request.headers ≡ cseq → Rules (λ (asked : Asked). method_of request.method ≡ Some asked.method) Whatever asked → HandsOnIf table request (screened request cseq asked)
hands_on table request (Err f) asked number method = tt
hands_on table request (Ok cseq) (Err f) number method = tt
hands_on table request (Ok cseq) (Ok asked) number method = record { cseq = number; method = method; headers = refl; body = refl }

pub reads_once : ReadsOnce
unfolding screen
reads_once table request parsed e = subst (λ (s : Screen). HandsOnIf table request s) e (hands_on table request (cseq_of request.headers) (asked_of table request) refl (asked_method table request))
