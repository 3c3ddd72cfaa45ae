-- The one value of a Transport header, read from left to right.
use Rattle.std.specs.Prelude.{ℕ, not, nat_lt, false, List, [], ◌∷◌, length, Option, Some, None, Result, Ok, Err, if◌then◌else◌}
use Rattle.rtsp_text.specs.Results.{◌>>=◌, each_of}
use Rattle.rtsp_text.specs.Trim.{trimmed}
use Rattle.rtsp_text.specs.SplitOnce.{split_once}
use Rattle.rtsp_transport.specs.Split.{is_closed, split}
use Rattle.rtsp_transport.specs.declared.spec.Parameter.{Parameter}
use Rattle.rtsp_transport.specs.declared.spec.Spec.{Spec}
use Rattle.rtsp_transport.specs.declared.fault.TextFault.{TextFault}
use Rattle.rtsp_transport.specs.declared.fault.TextFault.TheVariants.{Malformed}

-- a text that is not empty
abbrev pub some_text : List ℕ → Result (List ℕ) TextFault
some_text [] = Err Malformed
some_text (b ∷ bytes) = Ok (b ∷ bytes)

-- a name, or a name and a value
abbrev pub named : List ℕ → Option (List ℕ × List ℕ) → Parameter
named text None = record { name = text; value = None }
named text (Some p) = record { name = p.0; value = Some p.1 }

unfoldable pub parameter_of : List ℕ → Result Parameter TextFault
parameter_of part = do
  text ← some_text (trimmed part)
  Ok (named text (split_once 61 text))

abbrev pub parameters_of : List (List ℕ) → Result (List Parameter) TextFault
parameters_of parts = each_of parameter_of parts

unfoldable pub protocol_of : List ℕ → Result (List ℕ) TextFault
protocol_of part = some_text (trimmed part)

-- the first part is the protocol, each other one a parameter
abbrev pub spec_in : List (List ℕ) → Result Spec TextFault
spec_in [] = Err Malformed
spec_in (first ∷ others) = do
  protocol ← protocol_of first
  parameters ← parameters_of others
  Ok (record { protocol = protocol; parameters = parameters })

unfoldable pub spec_of : List ℕ → Result Spec TextFault
spec_of text = spec_in (split false 59 text)

abbrev pub specs_of : List (List ℕ) → Result (List Spec) TextFault
specs_of parts = each_of spec_of parts

unfoldable pub transports_of : List ℕ → Result (List Spec) TextFault
transports_of text =
    if not (is_closed false text) then Err Malformed
    else (if nat_lt 16 (length (split false 44 text)) then Err Malformed else specs_of (split false 44 text))
