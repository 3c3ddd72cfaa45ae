-- Where the units of tracks stand.
use Rattle.std.specs.Prelude.{◌≡◌, ℕ, ◌+◌, ◌*◌, ◌≤◌, Bool, List, length, Option, Some, None, true, IsSome, is_some, slice_get}
use Rattle.std.specs.List.{list_all}
use Rattle.std.specs.Global.{Vec}
use Rattle.rtsp_sockets.specs.declared.media.Place.{Place}
use Rattle.rtsp_sockets.specs.Files.{StandAt}

-- the place of a track, by those of all presentations
pub record IsPlaceOf (places : List (Vec Place)) (presentation track : ℕ) (place : Place) : Type 0 where
  pub tracks : Vec Place
  pub of_presentation : slice_get places presentation ≡ Some tracks
  pub of_track : slice_get tracks.items track ≡ Some place

-- what is open at a place, where something is
abbrev pub opened : {A M : Type 0} → (A → M) → Option (Option A) → Option M
opened of (Some (Some file)) = Some (of file)
opened of (Some None) = None
opened of None = None

-- the file with the index, where one is open
abbrev pub file_at : {A M : Type 0} → (A → M) → List (Option A) → ℕ → Option M
file_at of files i = opened of (slice_get files i)

module _ {M : Type 0} (text : M → Option (List ℕ)) where
  -- these octets stand in the file of a track, where its unit is: behind as many units of it as its number says
  pub record StandInFile (files : List (Option M)) (places : List (Vec Place)) (presentation track unit : ℕ) (octets : List ℕ) : Type 0 where
    pub place : Place
    pub is_place : IsPlaceOf places presentation track place
    pub file : M
    pub is_file : file_at (λ f. f) files place.file ≡ Some file
    pub stand : StandAt (text file) (unit * place.octets) octets

module _ {M : Type 0} (held : M → Option (Vec ℕ)) where
  -- the file of a track is held in memory
  pub record IsInMemory (files : List (Option M)) (places : List (Vec Place)) (presentation track : ℕ) : Type 0 where
    pub place : Place
    pub is_place : IsPlaceOf places presentation track place
    pub file : M
    pub is_file : file_at (λ f. f) files place.file ≡ Some file
    pub is_held : IsSome (held file)

  -- a unit of a track is held in memory, with so many octets
  pub record IsUnitHeld (files : List (Option M)) (places : List (Vec Place)) (presentation track unit len : ℕ) : Type 0 where
    pub place : Place
    pub is_place : IsPlaceOf places presentation track place
    pub file : M
    pub is_file : file_at (λ f. f) files place.file ≡ Some file
    pub bytes : Vec ℕ
    pub is_held : held file ≡ Some bytes
    pub within : unit * place.octets + len ≤ length bytes.items

  abbrev pub is_held_if : Option M → Bool
  is_held_if (Some file) = is_some (held file)
  is_held_if None = true

  -- all files that are open are held in memory
  abbrev pub are_held : List (Option M) → Bool
  are_held files = list_all (λ file. is_held_if file) files
