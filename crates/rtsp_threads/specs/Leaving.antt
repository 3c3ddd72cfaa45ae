-- Sweeps one after another, until nothing is left for them.
use Rattle.std.specs.Prelude.{◌≡◌, ℕ, false, List, [], ◌∷◌, All, Option}
use Rattle.rtsp_book.specs.declared.steps.Step.{Step}
use Rattle.rtsp_book.specs.declared.steps.Step.TheVariants.{Expire}
use Rattle.rtsp_admit.specs.Binder.{Calls}
use Rattle.rtsp_admit.specs.Runs.{State}
use Rattle.rtsp_expiry.specs.declared.swept.Swept.{Swept}
use Rattle.rtsp_expiry.specs.Sweeps.{Sweeps}
use Rattle.rtsp_expiry.specs.Endings.{EndsExpired, NoneExpired}

module _ {B : Type 0} (calls : Calls B) (step : Step) where
  -- sweeps of this step and nothing else, one after another, the last first
  abbrev pub OneByOne : List Swept → State B → State B → Type 0
  OneByOne [] s t = t ≡ s
  OneByOne (swept ∷ before) s t = (u : State B) × (limit : ℕ) × OneByOne before s u × Sweeps calls step limit swept u t

  -- so many sweeps as it takes
  pub record SweepsAll (s t : State B) : Type 0 where
    pub sweeps : List Swept
    pub run : OneByOne sweeps s t

-- one sweep, of one session at most, ended that which it tells and nothing else, where one had expired at this moment
pub record EndsNext {B : Type 0} (calls : Calls B) (now : ℕ) (told : Option ℕ) (s t : State B) : Type 0 where
  pub swept : Swept
  pub run : Sweeps calls (Expire now) 1 swept s t
  pub last : told ≡ swept.last
  pub ended : EndsExpired now swept.ended s.view t.view
  pub none : swept.more ≡ false → NoneExpired now t.view
