-- GET_PARAMETER (RFC 7826 section 13.8): no body; a body with names of parameters.
use Rattle.std.specs.Prelude.{ℕ, zero, suc, ◌==◌, ◌||◌, Bool, true, false, not, nat_eq, List, [], ◌∷◌, ◌++◌, length, drop, codes, bytes_eq, slice_get, is_some, Option, Some, None, Result, Ok, Err, if◌then◌else◌}
use Rattle.std.specs.List.{list_any, flat_map, starts_with}
use Rattle.rtsp_npt.specs.Printed.{time_text}
use Rattle.rtsp_record.specs.Moments.{point}
use Rattle.rtsp_state.specs.declared.status.Status.TheVariants.{BadRequest, ParameterNotUnderstood, SessionNotFound}
use Rattle.rtsp_state.specs.declared.fault.Fault.{Fault}
use Rattle.rtsp_state.specs.declared.fault.Fault.TheVariants.{Refused}
use Rattle.rtsp_state.specs.declared.request.Target.{Target}
use Rattle.rtsp_state.specs.declared.request.Target.TheVariants as targets
use Rattle.rtsp_state.specs.declared.timing.Timing.{Timing}
use Rattle.rtsp_state.specs.declared.words.Word.TheVariants as words
use Rattle.rtsp_state.specs.declared.parameters.Parameter.{Parameter}
use Rattle.rtsp_state.specs.declared.parameters.Parameter.TheVariants.{Position, Duration}
use Rattle.rtsp_state.specs.declared.plan.Plan.{Plan}
use Rattle.rtsp_text.specs.Results.{◌>>=◌}
use Rattle.rtsp_state.specs.Fault.{must}
use Rattle.rtsp_state.specs.Words.{text_of}
use Rattle.rtsp_state.specs.Lines.{type_line, length_line}
use Rattle.rtsp_state.specs.Context.{ContextValue, Living, timing_of, known, plainly}

-- the first line of a text, without its CR LF, and what stands behind it; without CR LF the whole is the line
unfoldable pub first_line : List ℕ → List ℕ × List ℕ
first_line [] = ([], [])
first_line (b ∷ bytes) =
    if starts_with nat_eq (b ∷ bytes) (codes "\r\n") then ([], drop 2 (b ∷ bytes)) else (b ∷ (first_line bytes).0, (first_line bytes).1)

-- the parameters that are known, by their exact names
abbrev pub parameter_of : List ℕ → Result Parameter Fault
parameter_of name =
    if bytes_eq name (codes "position") then Ok Position
    else (if bytes_eq name (codes "duration") then Ok Duration else Err (Refused ParameterNotUnderstood))

-- the parameters that a body names, one a line, and at most so many
unfoldable pub parameters_in : ℕ → List ℕ → Result (List Parameter) Fault
parameters_in n [] = Ok []
parameters_in zero (b ∷ bytes) = Err (Refused ParameterNotUnderstood)
parameters_in (suc n) (b ∷ bytes) = do
  first ← parameter_of (first_line (b ∷ bytes)).0
  others ← parameters_in n (first_line (b ∷ bytes)).1
  Ok (first ∷ others)

-- a parameter with its value: the point of the session, or the length of the media
unfoldable pub parameter_line : Timing → ℕ → Parameter → List ℕ
parameter_line timing at Position = text_of words.PositionIs ++ time_text at timing.unit_ms ++ text_of words.LineEnd
parameter_line timing at Duration = text_of words.DurationIs ++ time_text timing.units timing.unit_ms ++ text_of words.LineEnd

abbrev pub parameters_body : Timing → ℕ → List Parameter → List ℕ
parameters_body timing at names = flat_map (parameter_line timing at) names

-- whether a parameter needs a living session: the position does
abbrev pub is_position : Parameter → Bool
is_position Position = true
is_position Duration = false

-- the point of the session
abbrev pub point_of : ContextValue → Option Living → ℕ → ℕ
point_of context (Some view) unit_ms = point view.1.phase unit_ms context.moment
point_of context None unit_ms = 0

abbrev pub get_parameters : ContextValue → Option Living → ℕ → Result Plan Fault
get_parameters context view p = do
  names ← parameters_in 64 context.body
  living ← must (is_some view || not (list_any is_position names)) SessionNotFound
  presentation ← known (slice_get context.table.presentations p)
  let body = parameters_body (timing_of presentation) (point_of context view presentation.unit_ms) names in
      Ok (plainly context (type_line words.Parameters ∷ length_line body ∷ []) body)

abbrev pub get_parameter_body : ContextValue → Option Living → Target → Result Plan Fault
get_parameter_body context view (targets.Presentation base p) = get_parameters context view p
get_parameter_body context view (targets.Track base p t) = get_parameters context view p
get_parameter_body context view targets.Star = Err (Refused BadRequest)
get_parameter_body context view targets.Server = Err (Refused BadRequest)

abbrev pub get_parameter : ContextValue → Option Living → Target → Result Plan Fault
get_parameter context view target = if length context.body == 0 then Ok (plainly context [] []) else get_parameter_body context view target
