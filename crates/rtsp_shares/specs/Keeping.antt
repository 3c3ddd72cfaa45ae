-- The places that are kept for something with a number, and how they are looked for.
use Rattle.std.specs.Prelude.{◌≡◌, ⊤, ℕ, ◌+◌, ◌≤◌, ◌<◌, List, [], ◌∷◌, Option, Some, None, slice_get, min}
use Rattle.rtsp_shares.specs.declared.place.Place.{Place}
use Rattle.rtsp_shares.specs.declared.kept_place.KeptPlace.{KeptPlace}
use Rattle.rtsp_shares.specs.declared.search.Search.{Search}
use Rattle.rtsp_shares.specs.declared.search.TheConstants.{LOOKS}
use Rattle.rtsp_shares.specs.Places.{Places, places_of, SameLimits, Exchanges}

-- the place of an address that is kept for a number
abbrev pub kept : ℕ → ℕ → Place
kept address number = record { address = address; number = Some number }

-- at an index stands a place that is kept for this number, of some address
abbrev pub IsKeptAt : ℕ → List Place → ℕ → Type 0
IsKeptAt number places at = (address : ℕ) × (slice_get places at ≡ Some (kept address number))

-- a place is kept for this number
pub record HasKept (number : ℕ) (places : List Place) : Type 0 where
  pub at : ℕ
  pub address : ℕ
  pub there : slice_get places at ≡ Some (kept address number)

-- a place that was kept for this number is gone, and none else
pub record GivesBackKept (number : ℕ) (old new : Places) : Type 0 where
  pub limits : SameLimits old new
  pub address : ℕ
  pub gone : Exchanges old.taken new.taken (kept address number ∷ []) []

-- a place that was found stands where it was
abbrev pub Stands : KeptPlace → List Place → Type 0
Stands found places = slice_get places found.at ≡ Some (kept found.address found.number)

-- an address is this one, or any where none is named
abbrev pub IsOf : Option ℕ → ℕ → Type 0
IsOf None address = ⊤
IsOf (Some named) address = address ≡ named

-- a place that was found stands in the table, and is of whose places are looked for
pub record IsFound (whose : Option ℕ) (places : List Place) (found : KeptPlace) : Type 0 where
  pub stands : Stands found places
  pub of : IsOf whose found.address

-- from one index up to another there is no such place
abbrev pub NoneKept : Option ℕ → ℕ → ℕ → List Place → Type 0
NoneKept whose from below places = (found : KeptPlace) → IsFound whose places found → from ≤ found.at → found.at < below → ⊥

-- of those below an index it is the last
pub record IsLastBelow (whose : Option ℕ) (below : ℕ) (places : List Place) (last : KeptPlace) : Type 0 where
  pub found : IsFound whose places last
  pub lower : last.at < below
  pub others : NoneKept whose (last.at + 1) below places

-- an address whose share is spent has a few of its own looked at, and else all are
pub record IsSearch (places : Places) (address : ℕ) (search : Search) : Type 0 where
  pub own : places.share ≤ places_of address places.taken → (search.whose ≡ Some address) × (search.looks ≡ min (places_of address places.taken) LOOKS)
  pub all : places_of address places.taken < places.share → (search.whose ≡ None) × (search.looks ≡ places.most)
