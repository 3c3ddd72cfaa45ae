-- Sweeps one after another.
use Rattle.std.proofs.Common.{ℕ, List, [], ◌∷◌, refl}
use Rattle.rtsp_book.specs.declared.steps.Step.{Step}
use Rattle.rtsp_admit.specs.Binder.{Calls}
use Rattle.rtsp_admit.specs.Runs.{State}
use Rattle.rtsp_expiry.specs.declared.swept.Swept.{Swept}
use Rattle.rtsp_expiry.specs.Sweeps.{Sweeps}
use Rattle.rtsp_threads.specs.Leaving.{SweepsAll}

pub no_sweep : {B : Type 0} (calls : Calls B) (step : Step) (s : State B) → SweepsAll calls step s s
no_sweep calls step s = record { sweeps = []; run = refl }

pub one_more : {B : Type 0} (calls : Calls B) (step : Step) (s u t : State B) (swept : Swept) → SweepsAll calls step s u → (limit : ℕ) × Sweeps calls step limit swept u t → SweepsAll calls step s t
one_more calls step s u t swept all more = record { sweeps = swept ∷ all.sweeps; run = (u, more.0, all.run, more.1) }
