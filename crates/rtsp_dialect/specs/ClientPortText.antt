-- The value of a Transport header with the client's ports in the terms of 2.0.
use Rattle.std.specs.Prelude.{ℕ, Bool, false, map, List, [], ◌∷◌, ◌++◌, codes, Option, Some, None, if◌then◌else◌}
use Rattle.std.specs.List.{list_any, join_with_byte}
use Rattle.rtsp_text.specs.Trim.{trimmed}
use Rattle.rtsp_text.specs.SplitOnce.{split_once}
use Rattle.rtsp_transport.specs.Split.{split}
use Rattle.rtsp_transport.specs.TransportReading.{named}
use Rattle.rtsp_transport.specs.declared.spec.Parameter.{Parameter}
use Rattle.rtsp_transport.specs.declared.spec.Spec.{Spec}
use Rattle.rtsp_dialect.specs.ClientPort.{client_ports, addresses_text, is_old}

-- the parameter that a part spells
unfoldable pub parameter_in : List ℕ → Parameter
parameter_in part = named (trimmed part) (split_once 61 (trimmed part))

-- the specification that a protocol and its parameters spell
abbrev pub spec_in : List ℕ → List (List ℕ) → Spec
spec_in first others = record { protocol = trimmed first; parameters = map parameter_in others }

abbrev pub are_old : List (List ℕ) → Bool
are_old [] = false
are_old (first ∷ others) = is_old (spec_in first others)

-- the text is a specification with RTSP 1.0's ports in place of an address
unfoldable pub is_old_text : List ℕ → Bool
is_old_text text = are_old (split false 59 text)

-- the address that says the same as two ports; without them the part as it is
abbrev pub address_part : List ℕ → Option (List ℕ × List ℕ) → List ℕ
address_part part None = part
address_part part (Some ports) = codes "dest_addr=" ++ addresses_text ports

unfoldable pub repaired_part : List ℕ → List ℕ
repaired_part part = address_part part (client_ports (parameter_in part))

-- the protocol stays
abbrev pub repaired_parts : List (List ℕ) → List (List ℕ)
repaired_parts [] = []
repaired_parts (first ∷ others) = first ∷ map repaired_part others

-- one specification
unfoldable pub repaired_spec_text : List ℕ → List ℕ
repaired_spec_text text = if is_old_text text then join_with_byte 59 (repaired_parts (split false 59 text)) else text

-- one of the specifications is old
unfoldable pub has_old : List ℕ → Bool
has_old value = list_any is_old_text (split false 44 value)

-- all specifications
unfoldable pub repaired_transport : List ℕ → List ℕ
repaired_transport value = if has_old value then join_with_byte 44 (map repaired_spec_text (split false 44 value)) else value
