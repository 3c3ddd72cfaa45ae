-- How a play is linked to a slot: behind those that are linked there.
use Rattle.std.specs.Prelude.{◌≡◌, ℕ, List, ◌∷◌, Option, Some, IsSome, slice_set}
use Rattle.slab.specs.Slab.{get}
use Rattle.rtsp_pacing.specs.declared.plays.PacerPlays.{PacerPlays}
use Rattle.rtsp_pacing.specs.Plays.{IsLinked, IsChain, IsNone}
use Rattle.rtsp_pacing.specs.Wheel.{Turning, slot_of, place_of, head}

-- the play of a key is now the last of its slot, and all that were linked there are behind it, in their order
pub record Links (w : Turning) (p : PacerPlays) (key due : ℕ) (w' : Turning) (p' : PacerPlays) : Type 0 where
  pub before : Option ℕ
  pub was : head w (place_of w due) ≡ Some before
  pub heads : w'.heads ≡ slice_set w.heads (slot_of (place_of w due)) (Some key)
  pub linked : IsLinked p' key before
  pub chain : (keys : List ℕ) → IsChain p before keys → IsNone key keys → IsChain p' (Some key) (key ∷ keys)

-- so it is where there is a play
abbrev pub LinksBehind : Turning → PacerPlays → ℕ → ℕ → Turning → PacerPlays → Type 0
LinksBehind w p key due w' p' = IsSome (get p.plays key) → Links w p key due w' p'
