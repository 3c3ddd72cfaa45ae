-- A text that is put behind what is there.
use Rattle.std.proofs.Common.{◌≡◌, ℕ, List, ◌++◌, Result, Ok, Err, OnOk, refl}
use Rattle.rtsp_engine.specs.Served.{Puts}

pub puts : {E : Type 0} (result : Result (Unit {0}) E) (text old new : List ℕ) → OnOk result (new ≡ old ++ text) → OnOk result (Puts (λ bytes. bytes ≡ text) old new)
puts (Ok done) text old new h = record { bytes = text; is = refl; text = h }
puts (Err fault) text old new h = tt
