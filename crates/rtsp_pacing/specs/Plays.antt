-- The plays of a pacer: how many more need no memory, and which are linked to one slot.
use Rattle.std.specs.Prelude.{◌≡◌, ◌≢◌, ℕ, ◌≤◌, List, [], ◌∷◌, option_map, Option, Some, None}
use Rattle.slab.specs.Slab.{HasRoomFor, get}
use Rattle.indexmap.specs.IndexMap.{spare}
use Rattle.rtsp_pacing.specs.declared.plays.Linked.{Linked}
use Rattle.rtsp_pacing.specs.declared.plays.PacerPlays.{PacerPlays}

-- so many more plays need no memory
abbrev pub HasRoom : PacerPlays → ℕ → Type 0
HasRoom p more = HasRoomFor p.plays more × (more ≤ spare p.latest)

-- the plays of all other keys are as they were
abbrev pub KeepsOthers : PacerPlays → ℕ → PacerPlays → Type 0
KeepsOthers old key new = (other : ℕ) → other ≢ key → get new.plays other ≡ get old.plays other

-- no key without a play has one now
abbrev pub KeepsNone : PacerPlays → PacerPlays → Type 0
KeepsNone old new = (key : ℕ) → get old.plays key ≡ None → get new.plays key ≡ None

-- under the key is the same play, however it is linked
abbrev pub KeepsPlay : PacerPlays → ℕ → PacerPlays → Type 0
KeepsPlay old key new = option_map (λ linked. linked.play) (get new.plays key) ≡ option_map (λ linked. linked.play) (get old.plays key)

-- the play of a key is linked behind this one
pub record IsLinked (p : PacerPlays) (key : ℕ) (before : Option ℕ) : Type 0 where
  pub linked : Linked
  pub there : get p.plays key ≡ Some linked
  pub behind : linked.before ≡ before

-- the play of a key had its turn; it is linked as it was
pub record Turns (old : PacerPlays) (key : ℕ) (before : Option ℕ) (new : PacerPlays) : Type 0 where
  pub was : IsLinked old key before
  pub is : IsLinked new key before
  pub others : KeepsOthers old key new

-- the plays that are linked one behind another, from the last one on
abbrev pub IsChain : PacerPlays → Option ℕ → List ℕ → Type 0
IsChain p None [] = Unit {0}
IsChain p None (key ∷ keys) = ⊥
IsChain p (Some last) [] = ⊥
IsChain p (Some last) (key ∷ keys) = (key ≡ last) × (linked : Linked) × (get p.plays last ≡ Some linked) × IsChain p linked.before keys

-- the key is none of these
abbrev pub IsNone : ℕ → List ℕ → Type 0
IsNone key [] = Unit {0}
IsNone key (k ∷ ks) = (k ≢ key) × IsNone key ks
