-- What a request is about, of several presentations that have had one name (RFC 7826 section 13).
use Rattle.std.specs.Prelude.{◌≡◌, ℕ, List, [], ◌∷◌, Option, Some, None, Result, Ok, Err}
use Rattle.rtsp_record.specs.declared.streams.Stream.{Stream}
use Rattle.rtsp_content.specs.TableValue.{TableValue}
use Rattle.rtsp_content.specs.Offering.{meant_of, track_as}
use Rattle.rtsp_text.specs.Results.{◌>>=◌}
use Rattle.rtsp_state.specs.declared.fault.Fault.{Fault}
use Rattle.rtsp_state.specs.declared.method.Method.{Method}
use Rattle.rtsp_state.specs.declared.method.Method.TheVariants as methods
use Rattle.rtsp_state.specs.declared.request.Target.{Target}
use Rattle.rtsp_state.specs.declared.request.Target.TheVariants as targets
use Rattle.rtsp_state.specs.Context.{Living, streams_of, known}

-- the place of the first of a session's streams, which is that of all
abbrev pub first_place : List Stream → Option ℕ
first_place [] = None
first_place (s ∷ streams) = Some s.presentation

abbrev pub place_of : Option Living → Option ℕ
place_of (Some view) = first_place (streams_of view.1)
place_of None = None

-- the place by which a request is understood; a description is of what is offered, whoever asks
abbrev pub own_of : Method → Option Living → Option ℕ
own_of methods.Describe view = None
own_of method view = place_of view

abbrev pub meant : TableValue → Option ℕ → ℕ → Result ℕ Fault
meant table own p = known (meant_of table own p)

abbrev pub meant_track : TableValue → ℕ → ℕ → ℕ → Result ℕ Fault
meant_track table p t q = known (track_as table p t q)

-- the target, with the places that are meant
abbrev pub aimed : TableValue → Option ℕ → Target → Result Target Fault
aimed table own (targets.Presentation base p) = do
  q ← meant table own p
  Ok (targets.Presentation base q)
aimed table own (targets.Track base p t) = do
  q ← meant table own p
  u ← meant_track table p t q
  Ok (targets.Track base q u)
aimed table own targets.Server = Ok targets.Server
aimed table own targets.Star = Ok targets.Star

-- the target, with another place of its presentation
abbrev pub at_place : Target → ℕ → Target
at_place (targets.Presentation base p) q = targets.Presentation base q
at_place (targets.Track base p t) q = targets.Track base q t
at_place targets.Server q = targets.Server
at_place targets.Star q = targets.Star

-- the target, with another place of its track
abbrev pub at_track : Target → ℕ → Target
at_track (targets.Track base p t) u = targets.Track base p u
at_track (targets.Presentation base p) u = targets.Presentation base p
at_track targets.Server u = targets.Server
at_track targets.Star u = targets.Star

-- what a target is aimed at in its place, or why it isn't
abbrev pub Aims : TableValue → Option ℕ → Result (Unit {0}) Fault → Target → Target → Type 0
Aims table own (Ok done) old new = aimed table own old ≡ Ok new
Aims table own (Err fault) old new = aimed table own old ≡ Err fault
