-- Reading in the order of the keys: the first fault is the answer.
use Rattle.std.specs.Prelude.{Bool, Result, Ok, Err, if◌then◌else◌}
use Rattle.rtsp_content.specs.declared.fault.TableFault.{TableFault}

-- what is read, or the fault that is met first
abbrev pub Read : Type 0 → Type 0
Read T = Result T TableFault

-- what does not hold is a fault
abbrev pub must : Bool → TableFault → Read (Unit {0})
must holds fault = if holds then Ok tt else Err fault
