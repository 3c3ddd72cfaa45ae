-- The parts of files that are to be read: what is read is what was asked for, in order.
use Rattle.std.specs.Prelude.{◌≡◌, Bool, true, false, List, [], ◌∷◌, ◌++◌, Option, Some, None}
use Rattle.rtsp_sockets.specs.declared.cut.Cut.{Cut}
use Rattle.rtsp_sockets.specs.declared.wishes.Wishes.{Wishes}

-- the parts that wait, the first to be read first
abbrev pub wishes_in : Wishes → List Cut
wishes_in w = w.waiting.items

-- a part was put behind those that wait, or there was no room for it
abbrev pub after_wish : List Cut → Cut → Bool → List Cut
after_wish waiting wish true = waiting ++ wish ∷ []
after_wish waiting wish false = waiting

pub record PutsWish (old : Wishes) (wish : Cut) (new : Wishes) (is_kept : Bool) : Type 0 where
  pub waiting : wishes_in new ≡ after_wish (wishes_in old) wish is_kept
  pub stopped : new.is_stopped ≡ old.is_stopped

-- no part waits, and there is no end yet
abbrev pub HasNoWish : Wishes → Type 0
HasNoWish w = (wishes_in w ≡ []) × (w.is_stopped ≡ false)

-- the first part that waits is taken out of the others; none where there is none, and from the end on
abbrev pub TakesWish : Wishes → Option Cut → Wishes → Type 0
TakesWish old (Some wish) new = (old.is_stopped ≡ false) × (wishes_in old ≡ wish ∷ wishes_in new) × (new.is_stopped ≡ false)
TakesWish old None new = (old.is_stopped ≡ false → wishes_in old ≡ []) × (wishes_in new ≡ wishes_in old) × (new.is_stopped ≡ old.is_stopped)
