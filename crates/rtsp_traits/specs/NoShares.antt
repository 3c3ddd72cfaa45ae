-- Nobody counts the sessions of an address: each place can be had.
use Rattle.std.specs.Prelude.{⊤}
use Rattle.rtsp_traits.specs.Devices.{ShareCalls}
use Rattle.rtsp_traits.specs.declared.no_shares.NoShares.{NoShares}

-- none is refused
abbrev pub calls : ShareCalls NoShares
calls = record { takes = λ b peer c. ⊤; refuses = λ b peer c. ⊥; settles = λ b opened c. ⊤; refusals = λ b. 0 }
