-- What a path names: a presentation by `/name` or `/name/`, a track by `/name/track`.
use Rattle.std.specs.Prelude.{◌≡◌, ◌≢◌, ◌⊎◌, ℕ, ◌+◌, Bool, true, false, not, nat_le, ◌||◌, List, [], ◌∷◌, ◌++◌, Option, Some, None, codes, bytes_eq, slice_get, if◌then◌else◌}
use Rattle.std.specs.List.{position_from}
use Rattle.rtsp_content.specs.declared.found.Found.{Found}
use Rattle.rtsp_content.specs.declared.found.Found.TheVariants.{Presentation, Track, Nothing}
use Rattle.rtsp_content.specs.TrackValue.{TrackValue}
use Rattle.rtsp_content.specs.PresentationValue.{PresentationValue}
use Rattle.rtsp_content.specs.Numbers.{number_at}
use Rattle.rtsp_content.specs.TableValue.{TableValue}

abbrev pub presentation_path : PresentationValue → List ℕ
presentation_path p = codes "/" ++ p.name

abbrev pub track_path : PresentationValue → TrackValue → List ℕ
track_path p t = presentation_path p ++ codes "/" ++ t.name

abbrev pub is_presentation_path : PresentationValue → List ℕ → Bool
is_presentation_path p path = bytes_eq path (presentation_path p) || bytes_eq path (presentation_path p ++ codes "/")

abbrev pub is_track_path : PresentationValue → List ℕ → TrackValue → Bool
is_track_path p path t = bytes_eq path (track_path p t)

-- the track of presentation i with the index, if there is one
abbrev pub track_found : ℕ → Option ℕ → Found
track_found i (Some j) = Track i j
track_found i None = Nothing

-- what the path names of presentation i
abbrev pub found_at : ℕ → PresentationValue → List ℕ → Found
found_at i p path = if is_presentation_path p path then Presentation i else track_found i (position_from (is_track_path p path) 0 p.tracks)

-- the number of the place of what is found
abbrev pub number_found : List ℕ → Found → Option ℕ
number_found numbers (Presentation i) = Some (number_at numbers i)
number_found numbers (Track i j) = Some (number_at numbers i)
number_found numbers Nothing = None

-- the first of two numbers is less; none is more than each
abbrev pub is_less : Option ℕ → Option ℕ → Bool
is_less (Some one) (Some other) = not (nat_le other one)
is_less (Some one) None = true
is_less None other = false

-- of two that are found the one that has stood at its place for longer, or else the first
abbrev pub elder : List ℕ → Found → Found → Found
elder numbers first later = if is_less (number_found numbers later) (number_found numbers first) then later else first

-- the eldest that the path names among presentations that are counted from i, and of those the first
unfoldable pub find_from : List ℕ → ℕ → List PresentationValue → List ℕ → Found
find_from numbers i [] path = Nothing
find_from numbers i (p ∷ ps) path = elder numbers (found_at i p path) (find_from numbers (i + 1) ps path)

abbrev pub find_of : TableValue → List ℕ → Found
find_of table path = find_from table.numbers 0 table.presentations path

-- the path is that of the presentation
abbrev pub IsPathOf : PresentationValue → List ℕ → Type 0
IsPathOf p path = (path ≡ presentation_path p) ⊎ (path ≡ presentation_path p ++ codes "/")

-- the presentation with the index has the path
pub record NamesPresentation (table : TableValue) (path : List ℕ) (i : ℕ) : Type 0 where
  pub presentation : PresentationValue
  pub stands : slice_get table.presentations i ≡ Some presentation
  pub path_is : IsPathOf presentation path

-- the track with the index j of the presentation with the index i has the path
pub record NamesTrack (table : TableValue) (path : List ℕ) (i j : ℕ) : Type 0 where
  pub presentation : PresentationValue
  pub track : TrackValue
  pub stands : slice_get table.presentations i ≡ Some presentation
  pub track_stands : slice_get presentation.tracks j ≡ Some track
  pub path_is : path ≡ track_path presentation track

-- the path is that of what was found; nothing is found where it is no path of the table
abbrev pub Names : TableValue → List ℕ → Found → Type 0
Names table path (Presentation i) = NamesPresentation table path i
Names table path (Track i j) = NamesTrack table path i j
Names table path Nothing = (i : ℕ) (p : PresentationValue) → slice_get table.presentations i ≡ Some p
    → (¬ IsPathOf p path) × ((j : ℕ) (t : TrackValue) → slice_get p.tracks j ≡ Some t → path ≢ track_path p t)
