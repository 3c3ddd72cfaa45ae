-- A request about a presentation that isn't there for its user, as one about a name that nobody serves.
use Rattle.std.specs.Prelude.{◌≡◌, Some, Err}
use Rattle.rtsp_grammar.specs.declared.message.Request.{Request}
use Rattle.rtsp_content.specs.TableValue.{TableValue}
use Rattle.rtsp_state.specs.declared.method.Method.{Method}
use Rattle.rtsp_state.specs.declared.fault.Fault.TheVariants.{Refused}
use Rattle.rtsp_state.specs.declared.status.Status.TheVariants.{NotFound}
use Rattle.rtsp_state.specs.About.{nowhere}
use Rattle.rtsp_state.specs.Method.{method_of}
use Rattle.rtsp_state.specs.OrderOfRefusals.{target_of}
use Rattle.rtsp_state.specs.Screen.{screen}

-- the method, the version, the headers and the body stay
abbrev pub hidden : Request → Request
hidden request = record request { uri = nowhere }

-- the URI is right, and names nothing of the table; that of OPTIONS names nothing that could be missing
abbrev pub IsAbsent : TableValue → Request → Type 0
IsAbsent table request = (method : Method) → method_of request.method ≡ Some method → target_of table method request.uri ≡ Err (Refused NotFound)

-- Whatever is served: a request that is hidden comes to the same as one that differs from it in its URI alone, and names something
-- that isn't there. So the answers are the same to the byte.
abbrev pub HidesAsAbsent : Type 0
HidesAsAbsent = (table : TableValue) (request : Request) → IsAbsent table request → screen table (hidden request) ≡ screen table request
