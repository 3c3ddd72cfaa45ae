-- Which presentation a request means: what is withdrawn is for whoever has it.
use Rattle.std.specs.Prelude.{ℕ, ◌+◌, ◌==◌, ◌&&◌, not, Bool, false, List, [], ◌∷◌, Option, Some, None, bytes_eq, slice_get, if◌then◌else◌}
use Rattle.std.specs.List.{position_from}
use Rattle.rtsp_content.specs.TrackValue.{TrackValue}
use Rattle.rtsp_content.specs.PresentationValue.{PresentationValue}
use Rattle.rtsp_content.specs.TableValue.{TableValue}
use Rattle.rtsp_content.specs.Withdrawn.{is_gone, is_withdrawn}

-- the presentation is offered, under the name
abbrev pub is_offered_as : PresentationValue → Option Bool → List ℕ → Bool
is_offered_as presentation gone name = not (is_gone gone) && bytes_eq presentation.name name

-- the place at which one of the name is offered, of those counted from i
unfoldable pub offered_from : ℕ → List PresentationValue → List Bool → List ℕ → Option ℕ
offered_from i [] withdrawn name = None
offered_from i (p ∷ ps) withdrawn name =
    if is_offered_as p (slice_get withdrawn i) name then Some i else offered_from (i + 1) ps withdrawn name

-- both are there, and have one name
abbrev pub is_namesake : Option PresentationValue → Option PresentationValue → Bool
is_namesake (Some one) (Some other) = bytes_eq one.name other.name
is_namesake (Some one) None = false
is_namesake None other = false

abbrev pub offered_named : TableValue → Option PresentationValue → Option ℕ
offered_named table (Some presentation) = offered_from 0 table.presentations table.withdrawn presentation.name
offered_named table None = None

-- the place at which the presentation is offered, or one of its name
abbrev pub offered_like : TableValue → ℕ → Option ℕ
offered_like table p =
    if not (is_withdrawn table.withdrawn p) then Some p else offered_named table (slice_get table.presentations p)

-- the place that is meant by a place, of whoever has streams of the first: the own one, where it has that name
abbrev pub meant_of : TableValue → Option ℕ → ℕ → Option ℕ
meant_of table (Some own) p =
    if is_namesake (slice_get table.presentations own) (slice_get table.presentations p) then Some own else offered_like table p
meant_of table None p = offered_like table p

-- the track of the name
abbrev pub track_named : PresentationValue → List ℕ → Option ℕ
track_named presentation name = position_from (λ t. bytes_eq t.name name) 0 presentation.tracks

abbrev pub track_in : Option PresentationValue → Option TrackValue → Option ℕ
track_in (Some presentation) (Some track) = track_named presentation track.name
track_in (Some presentation) None = None
track_in None track = None

abbrev pub track_of : Option PresentationValue → ℕ → Option TrackValue
track_of (Some presentation) t = slice_get presentation.tracks t
track_of None t = None

-- the place of a track in what is meant, by its place in what is named
abbrev pub track_as : TableValue → ℕ → ℕ → ℕ → Option ℕ
track_as table p t meant =
    if meant == p then Some t else track_in (slice_get table.presentations meant) (track_of (slice_get table.presentations p) t)
