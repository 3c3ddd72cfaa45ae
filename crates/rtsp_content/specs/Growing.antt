-- A table that is made longer by another configuration.
use Rattle.std.specs.Prelude.{◌≡◌, ◌⊎◌, ◌≤◌, ◌<◌, ℕ, Bool, true, false, List, Some, length, slice_get}
use Rattle.rtsp_content.specs.declared.found.Found.{Found}
use Rattle.rtsp_content.specs.declared.found.Found.TheVariants.{Presentation, Track, Nothing}
use Rattle.rtsp_content.specs.declared.server.Server.{Server}
use Rattle.rtsp_content.specs.declared.standing.Standing.{Standing}
use Rattle.rtsp_content.specs.PresentationValue.{PresentationValue}
use Rattle.rtsp_content.specs.Numbers.{number_at}
use Rattle.rtsp_content.specs.Paths.{find_of}
use Rattle.rtsp_content.specs.TableValue.{TableValue}
use Rattle.rtsp_content.specs.Withdrawn.{is_gone, is_withdrawn}

-- what of the server's numbers stays as long as it runs: what is held by them, and what is made by them at its start
pub record IsFixed (old new : Server) : Type 0 where
  pub first_port : new.first_port ≡ old.first_port
  pub pairs : new.pairs ≡ old.pairs
  pub uplink : new.uplink ≡ old.uplink
  pub sessions : new.sessions ≡ old.sessions
  pub journal : new.journal ≡ old.journal
  pub workers : new.workers ≡ old.workers

-- the presentation stands at the place
abbrev pub StandsIn : List PresentationValue → PresentationValue → ℕ → Type 0
StandsIn all p place = slice_get all place ≡ Some p

-- the place wasn't given to another presentation: its number is as it was
abbrev pub IsSamePlace : TableValue → TableValue → ℕ → Type 0
IsSamePlace old new place = number_at new.numbers place ≡ number_at old.numbers place

-- the number is above those of all places of the old table
abbrev pub IsAbove : TableValue → ℕ → Type 0
IsAbove old number = (place : ℕ) → place < length old.presentations → number_at old.numbers place < number

-- it is above none of these at least
abbrev pub IsNotBelow : TableValue → ℕ → Type 0
IsNotBelow old number = (place : ℕ) → place < length old.presentations → number_at old.numbers place ≤ number

-- the new table has each place of the old one, and at each that wasn't given to another the same; what it has beside that is younger
pub record Extends (old new : TableValue) : Type 0 where
  pub server : IsFixed old.server new.server
  pub places : length old.presentations ≤ length new.presentations
  pub stays : (place : ℕ) (p : PresentationValue) → StandsIn old.presentations p place → IsSamePlace old new place → StandsIn new.presentations p place
  pub given : (place : ℕ) → place < length old.presentations → IsSamePlace old new place ⊎ IsAbove old (number_at new.numbers place)
  pub behind : (place : ℕ) → length old.presentations ≤ place → place < length new.presentations → IsNotBelow old (number_at new.numbers place)

-- the new table has at the place what the old one has, or the number there is greater than this one
abbrev pub GoesOnAt : TableValue → ℕ → TableValue → ℕ → Type 0
GoesOnAt old newest new place =
    ((p : PresentationValue) → StandsIn old.presentations p place → IsSamePlace old new place → StandsIn new.presentations p place)
    × (IsSamePlace old new place ⊎ (newest < number_at new.numbers place))

-- so it has at all places of the old one
abbrev pub GoesOn : TableValue → ℕ → TableValue → Type 0
GoesOn old newest new = (length old.presentations ≤ length new.presentations)
    × ((place : ℕ) → place < length old.presentations → GoesOnAt old newest new place)

-- behind these no number is less than this one
abbrev pub IsBehind : TableValue → ℕ → TableValue → Type 0
IsBehind old newest new = (place : ℕ) → length old.presentations ≤ place → place < length new.presentations → newest ≤ number_at new.numbers place

-- the place is among those that are free
abbrev pub is_free : List Bool → ℕ → Bool
is_free free place = is_gone (slice_get free place)

-- only what is free, and offered no more, is given to others
abbrev pub GivesOnly : TableValue → List Bool → TableValue → Type 0
GivesOnly old free new = (place : ℕ) → place < length old.presentations
    → IsSamePlace old new place ⊎ ((is_free free place ≡ true) × (is_withdrawn old.withdrawn place ≡ true))

-- the place of what is found wasn't given to another
abbrev pub IsSameFound : TableValue → TableValue → Found → Type 0
IsSameFound old new (Presentation i) = IsSamePlace old new i
IsSameFound old new (Track i j) = IsSamePlace old new i
IsSameFound old new Nothing = ⊥

-- a presentation is offered at some place
abbrev pub IsOffered : List PresentationValue → List Bool → PresentationValue → Type 0
IsOffered all withdrawn p = (place : ℕ) × StandsIn all p place × (is_withdrawn withdrawn place ≡ false)

-- the same of a table
abbrev pub IsOfferedIn : TableValue → PresentationValue → Type 0
IsOfferedIn table p = IsOffered table.presentations table.withdrawn p

-- what a table offers is offered at some place, and nothing else is
abbrev pub OffersWhat : TableValue → List PresentationValue → List Bool → Type 0
OffersWhat wanted all withdrawn =
    (p : PresentationValue) → (IsOfferedIn wanted p → IsOffered all withdrawn p) × (IsOffered all withdrawn p → IsOfferedIn wanted p)

-- both tables offer the same
abbrev pub OffersAlike : TableValue → TableValue → Type 0
OffersAlike wanted table = OffersWhat wanted table.presentations table.withdrawn

-- how places are given: which of them may be, with which number, and with which behind all others
pub record Giving : Type 0 where
  pub free : List Bool
  pub number : ℕ
  pub behind : ℕ

-- what stands at places while a table is made longer, which of it is offered no more, and the numbers of the places
pub record Places : Type 0 where
  pub presentations : List PresentationValue
  pub withdrawn : List Bool
  pub numbers : List ℕ

abbrev pub places_in : Standing → Places
places_in s = record { presentations = s.presentations.items; withdrawn = s.withdrawn.items; numbers = s.numbers.items }

-- the table that they make
abbrev pub table_with : Server → Standing → TableValue
table_with server s = record { server = server; presentations = s.presentations.items; withdrawn = s.withdrawn.items; numbers = s.numbers.items }

-- there are so many of each
pub record AreEven (places : Places) : Type 0 where
  pub withdrawn : length places.withdrawn ≡ length places.presentations
  pub numbers : length places.numbers ≡ length places.presentations

-- the place is given: that may be, and it gets the number
abbrev pub IsGiven : Giving → Places → ℕ → Type 0
IsGiven giving new place = (is_free giving.free place ≡ true) × (number_at new.numbers place ≡ giving.number)

-- a presentation comes to be offered at some place, which it had, or is given; all others stay
pub record Offers (giving : Giving) (old : Places) (p : PresentationValue) (new : Places) : Type 0 where
  pub even : AreEven new
  pub place : ℕ
  pub stands : StandsIn new.presentations p place
  pub offered : is_withdrawn new.withdrawn place ≡ false
  pub others : (i : ℕ) (q : PresentationValue) → ¬ (i ≡ place) → StandsIn new.presentations q i → is_withdrawn new.withdrawn i ≡ false
      → StandsIn old.presentations q i × (is_withdrawn old.withdrawn i ≡ false)
  pub stay : (i : ℕ) (q : PresentationValue) → StandsIn old.presentations q i → is_withdrawn old.withdrawn i ≡ false
      → StandsIn new.presentations q i × (is_withdrawn new.withdrawn i ≡ false)
  pub keep : (i : ℕ) (q : PresentationValue) → StandsIn old.presentations q i → StandsIn new.presentations q i ⊎ IsGiven giving new i
  pub places : length old.presentations ≤ length new.presentations
  pub given : (i : ℕ) → i < length old.presentations → (number_at new.numbers i ≡ number_at old.numbers i) ⊎ IsGiven giving new i
  pub behind : (i : ℕ) → length old.presentations ≤ i → i < length new.presentations → number_at new.numbers i ≡ giving.behind

-- a table that goes on has at each place of the old one what that has, unless the place was given to another
abbrev pub KeepsPlaces : Type 0
KeepsPlaces = (old new : TableValue) → Extends old new → (place : ℕ) (p : PresentationValue)
    → IsSamePlace old new place → StandsIn old.presentations p place → StandsIn new.presentations p place

-- what a path of the old table names it names still, where the place wasn't given to another
abbrev pub FindsAlike : Type 0
FindsAlike = (old new : TableValue) → Extends old new → (path : List ℕ) → IsSameFound old new (find_of old path) → find_of new path ≡ find_of old path

-- tables that go on chain
abbrev pub ExtendsChain : Type 0
ExtendsChain = (one two three : TableValue) → Extends one two → Extends two three → Extends one three
