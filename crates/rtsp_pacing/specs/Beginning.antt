-- How a play begins that a pacer takes over, and where the one before it ends.
use Rattle.std.specs.Prelude.{◌≡◌, ℕ, Some, None, nat_eq, unwrap_or}
use Rattle.slab.specs.Slab.{get}
use Rattle.indexmap.specs.IndexMap as sessions
use Rattle.rtsp_record.specs.declared.phases.Phase.{Phase}
use Rattle.rtsp_record.specs.Moments.{sent_before}
use Rattle.rtsp_pacing.specs.declared.noted.NewPlay.{NewPlay}
use Rattle.rtsp_pacing.specs.declared.play.PacedPlay.{PacedPlay}
use Rattle.rtsp_pacing.specs.declared.plays.Linked.{Linked}
use Rattle.rtsp_pacing.specs.declared.plays.PacerPlays.{PacerPlays}

-- a play begins in the phase that its PLAY made, whatever the session is in; nothing of it is sent, and it isn't yet seen that it was left
pub record Begins (new : NewPlay) (play : PacedPlay) : Type 0 where
  pub asked : play.asked ≡ new
  pub phase : play.pacer.phase ≡ new.begun.phase
  pub unsent : play.pacer.done ≡ 0
  pub unleft : play.left ≡ None

-- no play comes but the one that is taken over, and that begins so
abbrev pub TakesOver : NewPlay → PacerPlays → PacerPlays → Type 0
TakesOver new old plays = (key : ℕ) → get old.plays key ≡ None → (linked : Linked) → get plays.plays key ≡ Some linked → Begins new linked.play

-- what is counted up to the phase for which a play is left is all before the next play
abbrev pub IsApart : Phase → Phase → Type 0
IsApart left next = sent_before left ≡ sent_before next

-- the play of a key is left: for this phase, or for that for which it was left before
pub record LeavesPlay (was : Linked) (next : Phase) (plays : PacerPlays) (key : ℕ) : Type 0 where
  pub linked : Linked
  pub there : get plays.plays key ≡ Some linked
  pub left : linked.play.left ≡ Some (unwrap_or was.play.left next)

-- so it is with the play that a session had last
abbrev pub LeavesLatest : PacerPlays → ℕ → Phase → PacerPlays → Type 0
LeavesLatest old session next plays =
    (key : ℕ) → sessions.get nat_eq old.latest session ≡ Some key → (was : Linked) → get old.plays key ≡ Some was → LeavesPlay was next plays key
