-- The places that addresses have taken, and how they change.
use Rattle.std.specs.Prelude.{◌≡◌, ℕ, ◌+◌, ◌≤◌, ◌<◌, ◌==◌, Bool, List, length, count_by, max, Some, None, slice_get}
use Rattle.rtsp_shares.specs.declared.place.Place.{Place}
use Rattle.rtsp_shares.specs.declared.no_place.NoPlace.{NoPlace}
use Rattle.rtsp_shares.specs.declared.no_place.NoPlace.TheVariants.{Share, Full}

-- the places that are taken, how many of one address there may be by now, the most that there might be so far, and how many of all there may be
pub record Places : Type 0 where
  pub share : ℕ
  pub widest : ℕ
  pub most : ℕ
  pub taken : List Place

-- the place of an address that whoever took it holds
abbrev pub held : ℕ → Place
held address = record { address = address; number = None }

-- how many of them are of an address
abbrev pub places_of : ℕ → List Place → ℕ
places_of address places = count_by (λ place. place.address == address) places

-- whoever took a place of this address holds it
pub record HasHeld (address : ℕ) (places : List Place) : Type 0 where
  pub at : ℕ
  pub there : slice_get places at ≡ Some (held address)

-- no address has more than the greatest share so far, which is its share where that never changed, and all together no more than there may be
pub record ArePlacesWithin (places : Places) : Type 0 where
  pub share : (address : ℕ) → places_of address places.taken ≤ places.widest
  pub widest : places.share ≤ places.widest
  pub most : length places.taken ≤ places.most

-- an address may take one more
pub record HasRoom (address : ℕ) (places : Places) : Type 0 where
  pub share : places_of address places.taken < places.share
  pub most : length places.taken < places.most

-- why an address gets no place: as many of its own as its share are in use, or else all are that there may be
abbrev pub Lacks : ℕ → Places → NoPlace → Type 0
Lacks address places Share = places.share ≤ places_of address places.taken
Lacks address places Full = (places_of address places.taken < places.share) × (places.most ≤ length places.taken)

-- how many there may be stays
pub record SameLimits (old new : Places) : Type 0 where
  pub share : new.share ≡ old.share
  pub widest : new.widest ≡ old.widest
  pub most : new.most ≡ old.most

-- of one address there may be so many from now on; what is taken stays, also where that is more
abbrev pub with_share : ℕ → Places → Places
with_share share places = record places { share = share; widest = max share places.widest }

-- some are gone and others have come: whatever is counted, there are as many more of it as came, and as many less as are gone
abbrev pub Exchanges : {X : Type 0} → List X → List X → List X → List X → Type 0
Exchanges {X} old new gone come = (test : X → Bool) → count_by test new + count_by test gone ≡ count_by test old + count_by test come
