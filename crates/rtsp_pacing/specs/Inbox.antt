-- The plays that a pacer has to hear of: what is heard is what was put, in order.
use Rattle.std.specs.Prelude.{◌≡◌, ◌≤◌, Bool, true, false, List, [], ◌∷◌, ◌++◌}
use Rattle.std.specs.VecDeque.{deque_len, deque_capacity}
use Rattle.rtsp_pacing.specs.declared.inbox.Heard.{Heard}
use Rattle.rtsp_pacing.specs.declared.inbox.Heard.TheVariants as heard
use Rattle.rtsp_pacing.specs.declared.inbox.Inbox.{Inbox}
use Rattle.rtsp_pacing.specs.declared.noted.NewPlay.{NewPlay}

-- the plays that wait, the first to be heard first
abbrev pub plays_in : Inbox → List NewPlay
plays_in i = i.plays.items

-- a play was put behind those that wait, or there was no room for it
abbrev pub after_put : List NewPlay → NewPlay → Bool → List NewPlay
after_put waiting play true = waiting ++ play ∷ []
after_put waiting play false = waiting

pub record Puts (old : Inbox) (play : NewPlay) (new : Inbox) (is_kept : Bool) : Type 0 where
  pub plays : plays_in new ≡ after_put (plays_in old) play is_kept
  pub stopped : new.is_stopped ≡ old.is_stopped

-- no play waits, and there is no end yet
abbrev pub HearsNothing : Inbox → Type 0
HearsNothing i = (plays_in i ≡ []) × (i.is_stopped ≡ false)

-- as many plays wait as there is room for, and there is no end yet
abbrev pub IsFull : Inbox → Type 0
IsFull i = (deque_capacity i.plays ≤ deque_len i.plays) × (i.is_stopped ≡ false)

-- the first play that waits is taken out of the others
pub record Takes (old : Inbox) (play : NewPlay) (new : Inbox) : Type 0 where
  pub going_on : old.is_stopped ≡ false
  pub first : plays_in old ≡ play ∷ plays_in new
  pub stopped : new.is_stopped ≡ old.is_stopped

-- the end is heard before all plays, and then the plays as they were put
abbrev pub Hears : Inbox → Heard → Inbox → Type 0
Hears old (heard.Play play) new = Takes old play new
Hears old heard.Nothing new = HearsNothing old × (plays_in new ≡ []) × (new.is_stopped ≡ old.is_stopped)
Hears old heard.Stop new = (old.is_stopped ≡ true) × (new ≡ old)
