-- Which presentation a request is about, whatever else it asks; and a URI that is about none.
use Rattle.std.specs.Prelude.{◌≡◌, ℕ, List, codes, Option, Some, None, Result, Ok, Err}
use Rattle.rtsp_grammar.specs.declared.message.Request.{Request}
use Rattle.rtsp_content.specs.TableValue.{TableValue}
use Rattle.rtsp_state.specs.declared.method.Method.{Method}
use Rattle.rtsp_state.specs.declared.fault.Fault.{Fault}
use Rattle.rtsp_state.specs.declared.fault.Fault.TheVariants.{Refused}
use Rattle.rtsp_state.specs.declared.request.Target.{Target}
use Rattle.rtsp_state.specs.declared.request.Target.TheVariants as targets
use Rattle.rtsp_state.specs.declared.status.Status.TheVariants.{NotFound}
use Rattle.rtsp_state.specs.Method.{method_of}
use Rattle.rtsp_state.specs.Values.{uri_of}
use Rattle.rtsp_state.specs.OrderOfRefusals.{media_of, target_of}

abbrev pub place_in : Target → Option ℕ
place_in (targets.Presentation base p) = Some p
place_in (targets.Track base p t) = Some p
place_in targets.Server = None
place_in targets.Star = None

abbrev pub place_read : Result Target Fault → Option ℕ
place_read (Ok target) = place_in target
place_read (Err fault) = None

abbrev pub place_asked : TableValue → Option Method → List ℕ → Option ℕ
place_asked table (Some method) uri = place_read (target_of table method uri)
place_asked table None uri = None

-- by the fifth place of the order of refusals alone
abbrev pub presentation_asked : TableValue → Request → Option ℕ
presentation_asked table request = place_asked table (method_of request.method) request.uri

-- a URI without a path
abbrev pub nowhere : List ℕ
nowhere = codes "rtsp://nowhere"

-- it names nothing, whatever is served
abbrev pub NamesNothing : Type 0
NamesNothing = (table : TableValue) → media_of table (uri_of nowhere) ≡ Err (Refused NotFound)
