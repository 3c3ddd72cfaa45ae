-- What is read and answered alike where the content goes on (RFC 7826 sections 13 and 18.3).
use Rattle.std.specs.Prelude.{◌≡◌, ◌≢◌, ℕ, Some, Ok, Err, slice_get}
use Rattle.rtsp_grammar.specs.declared.message.Request.{Request}
use Rattle.rtsp_content.specs.PresentationValue.{PresentationValue}
use Rattle.rtsp_content.specs.TableValue.{TableValue}
use Rattle.rtsp_content.specs.Growing.{Extends, IsSamePlace, StandsIn}
use Rattle.rtsp_state.specs.declared.method.Method.{Method}
use Rattle.rtsp_state.specs.declared.status.Status.TheVariants.{NotFound}
use Rattle.rtsp_state.specs.declared.fault.Fault.TheVariants.{Refused}
use Rattle.rtsp_state.specs.declared.request.Target.{Target}
use Rattle.rtsp_state.specs.declared.request.Target.TheVariants as targets
use Rattle.rtsp_state.specs.declared.request.Screen.TheVariants.{Asks}
use Rattle.rtsp_state.specs.Method.{method_of}
use Rattle.rtsp_state.specs.OrderOfRefusals.{target_of}
use Rattle.rtsp_state.specs.ParsedRequest.{ParsedValue}
use Rattle.rtsp_state.specs.Screen.{screen}

-- the URI of a request names what the table has, be it offered or withdrawn
abbrev pub Has : TableValue → Request → Type 0
Has table request = (method : Method) → method_of request.method ≡ Some method → target_of table method request.uri ≢ Err (Refused NotFound)

-- the place that a target is of, where it is of one, wasn't given to another presentation
abbrev pub IsSameOn : TableValue → TableValue → Target → Type 0
IsSameOn old new (targets.Presentation base p) = IsSamePlace old new p
IsSameOn old new (targets.Track base p t) = IsSamePlace old new p
IsSameOn old new targets.Server = Unit {0}
IsSameOn old new targets.Star = Unit {0}

-- nor was that which the URI of a request names
abbrev pub NamesSame : TableValue → TableValue → Request → Type 0
NamesSame old new request = (method : Method) (target : Target) → method_of request.method ≡ Some method → target_of old method request.uri ≡ Ok target
    → IsSameOn old new target

-- a request for what a table has is read alike by one that goes on from it: it is answered alike, or handed on alike
abbrev pub ReadsAlike : Type 0
ReadsAlike = (old new : TableValue) → Extends old new → (request : Request) → Has old request → NamesSame old new request
    → screen new request ≡ screen old request

-- a presentation stands at the place
abbrev pub IsHeld : TableValue → ℕ → Type 0
IsHeld table p = (presentation : PresentationValue) × StandsIn table.presentations presentation p

-- so it does at the place that is named, where one is
abbrev pub IsThere : TableValue → Target → Type 0
IsThere table (targets.Presentation base p) = IsHeld table p
IsThere table (targets.Track base p t) = IsHeld table p
IsThere table targets.Server = Unit {0}
IsThere table targets.Star = Unit {0}

-- both tables have the same at the place
abbrev pub AgreeAt : TableValue → TableValue → ℕ → Type 0
AgreeAt old new p = slice_get new.presentations p ≡ slice_get old.presentations p

-- so they have at the place that is named, where one is
abbrev pub AgreeOn : TableValue → TableValue → Target → Type 0
AgreeOn old new (targets.Presentation base p) = AgreeAt old new p
AgreeOn old new (targets.Track base p t) = AgreeAt old new p
AgreeOn old new targets.Server = Unit {0}
AgreeOn old new targets.Star = Unit {0}

-- what is handed on of a request names a presentation of the table, and a table that goes on has the same there, unless the place was given to another
abbrev pub AsksAlike : Type 0
AsksAlike = (old new : TableValue) → Extends old new → (request : Request) (parsed : ParsedValue) → screen old request ≡ Asks parsed
    → IsThere old parsed.target × (IsSameOn old new parsed.target → AgreeOn old new parsed.target)
