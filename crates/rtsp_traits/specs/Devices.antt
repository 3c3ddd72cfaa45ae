-- What the calls of a source of words, of a clock, of those who learn of plays and of those who count sessions by address do.
use Rattle.std.specs.Prelude.{◌≡◌, ℕ, Bool, true, false, List, Option, Some, None}
use Rattle.rtsp_record.specs.Counters.{raised}
use Rattle.rtsp_record.specs.declared.phases.Phase.{Phase}
use Rattle.rtsp_admit.specs.Binder.{Calls}

-- a source of words before and after each word that it gives, and a call that fails; and how many have failed
pub record WordCalls (W : Type 0) : Type 1 where
  pub ids : W → ℕ → W → Type 0
  pub ssrcs : W → ℕ → W → Type 0
  pub seqs : W → ℕ → W → Type 0
  pub rtptimes : W → ℕ → W → Type 0
  pub fails : W → W → Type 0
  pub failures : W → ℕ

module _ {W : Type 0} (calls : WordCalls W) where
  -- a word was given, and no failure was counted
  pub record Gave (gives : W → ℕ → W → Type 0) (word : ℕ) (b c : W) : Type 0 where
    pub call : gives b word c
    pub count : calls.failures c ≡ calls.failures b

  -- none could be had, and that was counted
  pub record Lacked (b c : W) : Type 0 where
    pub call : calls.fails b c
    pub count : calls.failures c ≡ raised (calls.failures b)

-- who learns of plays, before and after each call: a play is noted, by its session and by the CSeq and the
-- URI of its PLAY; there is no memory to note it; and it is settled, by the phase that it began, or by none
-- where it was refused
pub record PlayCalls (P : Type 0) : Type 1 where
  pub notes : P → ℕ → ℕ → List ℕ → P → Type 0
  pub lacks : P → P → Type 0
  pub settles : P → Option Phase → P → Type 0

module _ {P : Type 0} (calls : PlayCalls P) where
  -- a play that is begun was noted; without one nothing was done
  abbrev pub Noted : Option ℕ → ℕ → List ℕ → P → P → Type 0
  Noted None cseq uri b c = c ≡ b
  Noted (Some session) cseq uri b c = calls.notes b session cseq uri c

  -- there was no memory to note it
  abbrev pub NotNoted : Option ℕ → P → P → Type 0
  NotNoted None b c = ⊥
  NotNoted (Some session) b c = calls.lacks b c

  -- it was settled, by the phase that it began
  abbrev pub Settled : Option ℕ → Option Phase → P → P → Type 0
  Settled None begun b c = c ≡ b
  Settled (Some session) begun b c = calls.settles b begun c

-- who counts the sessions of each address, before and after each call: a place is taken for a player at an
-- address; it is refused; and the place that was taken last is settled, by the number of the session that was
-- opened, if one was. And how many places were refused
pub record ShareCalls (S : Type 0) : Type 1 where
  pub takes : S → ℕ → S → Type 0
  pub refuses : S → ℕ → S → Type 0
  pub settles : S → Option ℕ → S → Type 0
  pub refusals : S → ℕ

module _ {S : Type 0} (calls : ShareCalls S) where
  -- a place was taken, and no refusal was counted
  pub record Took (peer : ℕ) (b c : S) : Type 0 where
    pub call : calls.takes b peer c
    pub count : calls.refusals c ≡ calls.refusals b

  -- none is left to the address, and that was counted
  pub record TurnedAway (peer : ℕ) (b c : S) : Type 0 where
    pub call : calls.refuses b peer c
    pub count : calls.refusals c ≡ raised (calls.refusals b)

  -- no place is ever refused
  abbrev pub RefusesNone : Type 0
  RefusesNone = (b c : S) (peer : ℕ) → calls.refuses b peer c → ⊥

  -- a place was taken, and then settled
  pub record TookAndSettled (peer : ℕ) (opened : Option ℕ) (b c : S) : Type 0 where
    pub between : S
    pub took : Took peer b between
    pub settled : calls.settles between opened c

  -- so it was where a session was to be opened; else no place was taken
  abbrev pub UsesPlace : Bool → ℕ → Option ℕ → S → S → Type 0
  UsesPlace true peer opened b c = TookAndSettled peer opened b c
  UsesPlace false peer opened b c = c ≡ b

  -- a session was to be opened, and there was no place for it
  abbrev pub LacksPlace : Bool → ℕ → S → S → Type 0
  LacksPlace true peer b c = TurnedAway peer b c
  LacksPlace false peer b c = ⊥

-- what the calls of all devices do
pub record Devices (B W C P S : Type 0) : Type 1 where
  pub binder : Calls B
  pub words : WordCalls W
  pub clock : C → ℕ → C → Type 0
  pub plays : PlayCalls P
  pub shares : ShareCalls S

-- these calls together
abbrev pub devices : {B W C P S : Type 0} → Calls B → WordCalls W → (C → ℕ → C → Type 0) → PlayCalls P → ShareCalls S → Devices B W C P S
devices b w c p s = record { binder = b; words = w; clock = c; plays = p; shares = s }
