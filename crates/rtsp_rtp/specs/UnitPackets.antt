-- The packets that are made of the octets of a unit.
use Rattle.std.specs.Prelude.{ℕ, ◌+◌, ◌%◌, ◌^◌, ◌++◌, List, [], ◌∷◌, set, length, Option, Some, None}
use Rattle.rtsp_content.specs.declared.packing.Packing.{Packing}
use Rattle.rtsp_content.specs.declared.packing.Packing.TheVariants.{Single, Slots, Equal}
use Rattle.rtsp_rtp.specs.declared.source.Source.{Source}
use Rattle.rtsp_rtp.specs.declared.part.Part.{Part}
use Rattle.rtsp_rtp.specs.declared.part.SlotFault.{SlotFault}
use Rattle.rtsp_rtp.specs.declared.sender_state.SenderState.{SenderState}
use Rattle.rtsp_rtp.specs.Packets.{packet_of, marked_header, first_number, timestamp_after}
use Rattle.rtsp_rtp.specs.Parts.{parts_of, payload_in}
use Rattle.rtsp_rtp.specs.SenderStates.{state_of, counted, counted_all, behind_report}

-- a packet of a unit, by the first number of the play, the state of its stream, and the timestamp of the unit
abbrev pub part_packet : Source → ℕ → ℕ → List ℕ → SenderState → Part → List ℕ
part_packet x first timestamp unit s p =
    marked_header x p.marker ((first + s.packets) % 2 ^ 16) ((timestamp + p.offset) % 2 ^ 32) ++ payload_in unit p

-- those of a unit, each with the number behind the one before
abbrev pub part_packets : Source → ℕ → ℕ → List ℕ → SenderState → List Part → List (List ℕ)
part_packets x first timestamp unit s [] = []
part_packets x first timestamp unit s (p ∷ ps) = part_packet x first timestamp unit s p ∷ part_packets x first timestamp unit (counted s p) ps

-- the packets of the unit i of a play before which so many units were sent: one with the octets as its payload, or several
abbrev pub unit_packets : Packing → Source → ℕ → ℕ → List SenderState → List ℕ → List (List ℕ)
unit_packets Single x before i states octets = packet_of x (before + i) octets ∷ []
unit_packets packing x before i states octets =
    part_packets x (first_number x before) (timestamp_after x (before + i)) octets (state_of states x.track) (parts_of packing x.ticks octets).parts

-- what is wrong with the unit, if anything is
abbrev pub fault_in : Packing → ℕ → List ℕ → Option SlotFault
fault_in Single ticks octets = None
fault_in packing ticks octets = (parts_of packing ticks octets).fault

-- the state of a stream with the packets of a unit counted
abbrev pub counted_in : Source → List SenderState → List Part → SenderState
counted_in x states ps = counted_all (state_of states x.track) ps

-- the states of all streams behind the unit i of a source
abbrev pub states_behind : Packing → ℕ → Source → ℕ → List SenderState → List ℕ → List SenderState
states_behind Single unit_ms x i states octets = states
states_behind packing unit_ms x i states octets =
    let ps = (parts_of packing x.ticks octets).parts in
    set states x.track (behind_report unit_ms (counted_in x states ps) i (length ps))
