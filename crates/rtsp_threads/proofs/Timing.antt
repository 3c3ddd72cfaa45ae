-- A reader of which nothing was asked.
use Rattle.std.proofs.Common.{ℕ, List, Option, None, Some, refl}
use Rattle.std.specs.Io.KnownBytes.{Keeps}

-- it has to give what it had
pub keeps_same : (bytes : Option (List ℕ)) → Keeps bytes bytes
keeps_same None = tt
keeps_same (Some bytes) = refl
