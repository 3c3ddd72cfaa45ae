-- What comes of asking a stream of std once to take some bytes.
use Rattle.std.specs.Prelude.{ℕ, List, Option}
use Rattle.std.specs.Io.KnownBytes.{Keeps}
use Rattle.rtsp_sockets.specs.Passing.{Tries}
use Rattle.rtsp_sockets.specs.declared.try_write.Asked.{Asked}
use Rattle.rtsp_sockets.specs.declared.try_write.Asked.TheVariants.{Answered, Interrupted}

-- it took some or is broken; where a signal came first, it took none
abbrev pub AsksOnce : Option (List ℕ) → Option (List ℕ) → List ℕ → Asked → Type 0
AsksOnce before after bytes (Answered taken) = Tries before after bytes taken
AsksOnce before after bytes Interrupted = Keeps before after
