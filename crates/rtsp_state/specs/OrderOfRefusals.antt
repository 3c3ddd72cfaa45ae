-- What a request asks, and what it is refused for before a session is looked at: the first six places of the order.
use Rattle.std.specs.Prelude.{ℕ, not, List, [], ◌∷◌, codes, bytes_eq, Option, Some, None, Result, Ok, Err, if◌then◌else◌}
use Rattle.rtsp_grammar.specs.Header.{HeaderText}
use Rattle.rtsp_grammar.specs.declared.message.Request.{Request}
use Rattle.rtsp_grammar.specs.declared.version.Version.{Version}
use Rattle.rtsp_grammar.specs.declared.version.Version.TheVariants as versions
use Rattle.rtsp_text.specs.Decimal.{number_of}
use Rattle.rtsp_content.specs.TableValue.{TableValue}
use Rattle.rtsp_content.specs.Paths.{find_of}
use Rattle.rtsp_content.specs.declared.found.Found.{Found}
use Rattle.rtsp_content.specs.declared.found.Found.TheVariants as found
use Rattle.url.specs.Parts.{Parts}
use Rattle.rtsp_state.specs.declared.method.Method.{Method}
use Rattle.rtsp_state.specs.declared.method.Method.TheVariants as methods
use Rattle.rtsp_state.specs.declared.status.Status.TheVariants.{BadRequest, NotFound, SessionNotFound, NotImplemented, VersionNotSupported}
use Rattle.rtsp_state.specs.declared.fault.Fault.{Fault}
use Rattle.rtsp_state.specs.declared.fault.Fault.TheVariants.{Refused, Unsupported}
use Rattle.rtsp_state.specs.declared.request.Target.{Target}
use Rattle.rtsp_state.specs.declared.request.Target.TheVariants as targets
use Rattle.rtsp_state.specs.declared.request.Name.{Name}
use Rattle.rtsp_state.specs.declared.request.Name.TheVariants.{Id, Startup}
use Rattle.rtsp_state.specs.declared.order_of_refusals.Asked.{Asked}
use Rattle.rtsp_text.specs.Results.{◌>>=◌}
use Rattle.rtsp_state.specs.Fault.{must}
use Rattle.rtsp_state.specs.Method.{method_of, needs_session, takes_star}
use Rattle.rtsp_state.specs.Values.{single_value, joined, joined_in, id_of, session_name, tags_in, unknown_tags, uri_of, bare_text, with_slash}

-- a value that must be well formed
abbrev pub formed : {A : Type 0} → Option A → Result A Fault
formed (Some x) = Ok x
formed None = Err (Refused BadRequest)

-- 1. CSeq: there, once and well formed
abbrev pub cseq_of_value : Option (List ℕ) → Result ℕ Fault
cseq_of_value None = Err (Refused BadRequest)
cseq_of_value (Some value) = formed (number_of 9 value)

abbrev pub cseq_of : List HeaderText → Result ℕ Fault
cseq_of headers = do
  value ← single_value (codes "CSeq") headers
  cseq_of_value value

-- 2. the version is 2.0
abbrev pub version_rule : Version → Result (Unit {0}) Fault
version_rule versions.Rtsp2 = Ok tt
version_rule (versions.Other text) = Err (Refused VersionNotSupported)

-- 3. the method is one of the server's
abbrev pub served : Option Method → Result Method Fault
served (Some method) = Ok method
served None = Err (Refused NotImplemented)

-- 4. Require, all such headers as one: its tags are well formed, and each is known
abbrev pub unless_unknown : List (List ℕ) → Result (Unit {0}) Fault
unless_unknown [] = Ok tt
unless_unknown (tag ∷ tags) = Err (Unsupported (joined (tag ∷ tags)))

abbrev pub require_of_value : Option (List ℕ) → Result (Unit {0}) Fault
require_of_value None = Ok tt
require_of_value (Some value) = do
  tags ← tags_in value
  unless_unknown (unknown_tags tags)

abbrev pub require_rule : List HeaderText → Result (Unit {0}) Fault
require_rule headers = require_of_value (joined_in (codes "Require") headers)

-- 5. the URI: OPTIONS has no use for it, `*` is taken by GET_PARAMETER and SET_PARAMETER alone
abbrev pub target_at : List ℕ → Found → Result Target Fault
target_at base (found.Presentation p) = Ok (targets.Presentation base p)
target_at base (found.Track p t) = Ok (targets.Track base p t)
target_at base found.Nothing = Err (Refused NotFound)

abbrev pub media_of : TableValue → Option Parts → Result Target Fault
media_of table (Some url) = target_at (with_slash (bare_text url)) (find_of table url.path)
media_of table None = Err (Refused BadRequest)

abbrev pub target_of : TableValue → Method → List ℕ → Result Target Fault
target_of table methods.Options text = Ok targets.Server
target_of table method text =
    if bytes_eq text (codes "*")
    then (if takes_star method then Ok targets.Star else Err (Refused BadRequest))
    else media_of table (uri_of text)

-- 6. the session: Session, else Pipelined-Requests; a name that is no id of this server names no living session
abbrev pub named : Option ℕ → Result (Option Name) Fault
named None = Err (Refused SessionNotFound)
named (Some id) = Ok (Some (Id id))

abbrev pub session_named : List ℕ → Result (Option Name) Fault
session_named value = do
  name ← formed (session_name value)
  named (id_of name)

abbrev pub startup_named : Method → Option (List ℕ) → Result (Option Name) Fault
startup_named method (Some value) = do
  number ← formed (number_of 8 value)
  Ok (Some (Startup number))
startup_named method None = do
  unneeded ← must (not (needs_session method)) SessionNotFound
  Ok None

abbrev pub name_of_values : Method → List HeaderText → Option (List ℕ) → Result (Option Name) Fault
name_of_values method headers (Some value) = session_named value
name_of_values method headers None = do
  value ← single_value (codes "Pipelined-Requests") headers
  startup_named method value

abbrev pub name_of : Method → List HeaderText → Result (Option Name) Fault
name_of method headers = do
  value ← single_value (codes "Session") headers
  name_of_values method headers value

-- places 2 to 6
unfoldable pub asked_of : TableValue → Request → Result Asked Fault
asked_of table request = do
  version ← version_rule request.version
  method ← served (method_of request.method)
  require ← require_rule request.headers
  target ← target_of table method request.uri
  name ← name_of method request.headers
  Ok (record { method = method; target = target; name = name })
