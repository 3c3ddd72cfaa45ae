-- How many are inside, of each address and in all.
use Rattle.std.specs.Prelude.{◌≡◌, ⊤, ◌⊎◌, ℕ, min, ◌+◌, ◌-◌, ◌^◌, ◌≤◌, ◌<◌, List, [], ◌∷◌, ◌++◌, length, Option, Some, None, IfSome}
use Rattle.rtsp_shares.specs.Places.{Places, held, places_of, HasHeld, SameLimits, Exchanges, with_share}
use Rattle.rtsp_shares.specs.declared.headcount.Inside.{Inside}
use Rattle.rtsp_shares.specs.declared.headcount.Inside.TheVariants.{All, Each}
use Rattle.rtsp_shares.specs.declared.headcount.Headcount.{Headcount}
use Rattle.rtsp_shares.specs.declared.headcount.Refused.{Refused}
use Rattle.rtsp_shares.specs.declared.headcount.Refused.TheVariants.{Share, Full, Over}

-- how many there are in all, which is the sum of those of each address
abbrev pub inside_of : Inside → ℕ
inside_of (All count) = count
inside_of (Each places) = length places.taken

-- nobody, where addresses have a share or none
abbrev pub nobody : Option ℕ → ℕ → Inside
nobody None most = All 0
nobody (Some share) most = Each (record { share = share; widest = share; most = most; taken = [] })

abbrev pub opened : Option ℕ → Option ℕ → ℕ → Headcount
opened left share most = record { inside = nobody share most; unnamed = 0; left = left }

-- those of whom an address is known and the others, as far as 64 bits count
abbrev pub everybody : Headcount → ℕ
everybody heads = min (inside_of heads.inside + heads.unnamed) (2 ^ 64 - 1)

-- one more of this address
abbrev pub OneMore : ℕ → Inside → Inside → Type 0
OneMore address (All count) new = new ≡ All (count + 1)
OneMore address (Each places) new = new ≡ Each (record places { taken = places.taken ++ held address ∷ [] })

-- one less may come
abbrev pub OneLessLeft : Option ℕ → Option ℕ → Type 0
OneLessLeft None new = new ≡ None
OneLessLeft (Some left) new = (0 < left) × (new ≡ Some (left - 1))

-- somebody of this address was let in, for whom there was room
pub record Enters (address most : ℕ) (old new : Headcount) : Type 0 where
  pub room : inside_of old.inside + old.unnamed < most
  pub one_more : OneMore address old.inside new.inside
  pub others : new.unnamed ≡ old.unnamed
  pub left : OneLessLeft old.left new.left

-- somebody was let in whose address isn't known
pub record EntersUnnamed (most : ℕ) (old new : Headcount) : Type 0 where
  pub room : inside_of old.inside + old.unnamed < most
  pub same : new.inside ≡ old.inside
  pub one_more : new.unnamed ≡ old.unnamed + 1
  pub left : OneLessLeft old.left new.left

-- the address of one of these became known
pub record IsNamed (address : ℕ) (old new : Headcount) : Type 0 where
  pub one_more : OneMore address old.inside new.inside
  pub one_less : new.unnamed ≡ old.unnamed - 1
  pub left : new.left ≡ old.left

-- one less of this address, if one was inside
pub record OneLess (address : ℕ) (old new : Places) : Type 0 where
  pub limits : SameLimits old new
  pub gone : HasHeld address old.taken → Exchanges old.taken new.taken (held address ∷ []) []
  pub none : (HasHeld address old.taken → ⊥) → new ≡ old

abbrev pub Leaves : ℕ → Inside → Inside → Type 0
Leaves address (All count) new = new ≡ All (count - 1)
Leaves address (Each places) new = (after : Places) × (new ≡ Each after) × OneLess address places after

-- an address may have so many inside from now on, where those of each are counted
abbrev pub of_share : ℕ → Inside → Inside
of_share share (All count) = All count
of_share share (Each places) = Each (with_share share places)

-- an address has its share inside, or the places of all are taken
abbrev pub HasNoPlace : ℕ → Inside → Type 0
HasNoPlace address (All count) = ⊥
HasNoPlace address (Each places) = (places.share ≤ places_of address places.taken) ⊎ (places.most ≤ length places.taken)

-- why nobody more is of this address
abbrev pub IsUnplacedIn : ℕ → Inside → Refused → Type 0
IsUnplacedIn address inside Share = HasNoPlace address inside
IsUnplacedIn address inside Full = 2 ^ 64 - 1 ≤ inside_of inside
IsUnplacedIn address inside Over = ⊥

-- why somebody of this address isn't let in
abbrev pub IsRefusedFor : ℕ → ℕ → Headcount → Refused → Type 0
IsRefusedFor address most heads Share = HasNoPlace address heads.inside
IsRefusedFor address most heads Full = most ≤ inside_of heads.inside + heads.unnamed
IsRefusedFor address most heads Over = heads.left ≡ Some 0
