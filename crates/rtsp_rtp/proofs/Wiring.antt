-- The packets of a unit that is sent are within what is held for them.
use Rattle.std.proofs.Common.{◌≡◌, ℕ, ◌+◌, ◌*◌, ◌%◌, ◌^◌, ◌<◌, ◌≤◌, List, [], ◌∷◌, length, refl, arith, Option, Some, None}
use Rattle.std.specs.List.{sum_by}
use Rattle.std.proofs.lemmas.List.Sums.{sum_by-cons}
use Rattle.std.proofs.lemmas.List.{length-append}
use Rattle.rtsp_record.specs.declared.phases.Phase.{Phase}
use Rattle.rtsp_record.specs.Moments.{sent_before}
use Rattle.rtsp_content.specs.declared.packing.Packing.{Packing}
use Rattle.rtsp_content.specs.declared.packing.Packing.TheVariants.{Single, Slots, Equal}
use Rattle.rtsp_content.specs.PackingLimits.{packet_count, unit_len}
use Rattle.rtsp_rtp.specs.declared.source.Source.{Source}
use Rattle.rtsp_rtp.specs.declared.part.Part.{Part}
use Rattle.rtsp_rtp.specs.declared.sender_state.SenderState.{SenderState}
use Rattle.rtsp_rtp.specs.Packets.{header_of, marked_header, first_number, timestamp_after}
use Rattle.rtsp_rtp.specs.Parts.{parts_of, payload_in}
use Rattle.rtsp_rtp.specs.SenderStates.{state_of, counted}
use Rattle.rtsp_rtp.specs.UnitPackets.{part_packet, part_packets, unit_packets}
use Rattle.rtsp_rtp.specs.Sinks.{Calls}
use Rattle.rtsp_rtp.specs.Wire.{Way, datagrams, frames, beside, wire_of, reserve_of, IsUnitWithin, AreWithin}
use Rattle.rtsp_rtp.proofs.Parting.{parts_fit}

pub beside_most : (way : Way) → beside way ≤ 28
beside_most datagrams = omega arith
beside_most frames = omega arith

-- a header is twelve bytes
part_wire : (way : Way) (x : Source) (first stamp : ℕ) (unit : List ℕ) (s : SenderState) (p : Part) → wire_of way (part_packet x first stamp unit s p) ≤ length (payload_in unit p) + 40
part_wire way x first stamp unit s p =
    omega (arith, beside_most way, length-append (marked_header x p.marker ((first + s.packets) % 2 ^ 16) ((stamp + p.offset) % 2 ^ 32)) (payload_in unit p))

parts_wire : (way : Way) (x : Source) (first stamp : ℕ) (unit : List ℕ) (s : SenderState) (ps : List Part)
    → sum_by (wire_of way) (part_packets x first stamp unit s ps) ≤ sum_by (λ p. length (payload_in unit p)) ps + 40 * length ps
parts_wire way x first stamp unit s [] = omega arith
parts_wire way x first stamp unit s (p ∷ ps) =
    let here = sum_by-cons (wire_of way) (part_packet x first stamp unit s p) (part_packets x first stamp unit (counted s p) ps) in
    let there = sum_by-cons {X = Part} (λ q. length (payload_in unit q)) p ps in
    omega (arith, here, there, part_wire way x first stamp unit s p, parts_wire way x first stamp unit (counted s p) ps)

heads : (ps : List Part) → sum_by {X = Part} (λ p. 8) ps ≡ 8 * length ps
heads [] = refl
heads (p ∷ ps) = omega (arith, sum_by-cons {X = Part} (λ q. 8) p ps, heads ps)

-- what is sent for a unit is at most its octets and 40 bytes for each packet that it may have
unit_within : (way : Way) (packing : Packing) (x : Source) (before i : ℕ) (states : List SenderState) (octets : List ℕ) (n : ℕ) → length octets ≡ unit_len packing n
    → sum_by (wire_of way) (unit_packets packing x before i states octets) ≤ n + packet_count packing * 40
unit_within way Single x before i states octets n full = omega (arith, full, beside_most way, length-append (header_of x (before + i)) octets)
unit_within way (Slots m) x before i states octets n full =
    let ps = (parts_of (Slots m) x.ticks octets).parts in
    let fits = parts_fit (Slots m) x.ticks octets m 0 0 (omega arith) in
    omega (arith, full, fits.octets, fits.count, heads ps, parts_wire way x (first_number x before) (timestamp_after x (before + i)) octets (state_of states x.track) ps)
unit_within way (Equal m) x before i states octets n full =
    let ps = (parts_of (Equal m) x.ticks octets).parts in
    let fits = parts_fit (Equal m) x.ticks octets m 0 0 (omega arith) in
    omega (arith, full, fits.octets, fits.count, parts_wire way x (first_number x before) (timestamp_after x (before + i)) octets (state_of states x.track) ps)

module _ {S : Type 0} (calls : Calls S) (way : ℕ → Way) (phase : Phase) (unit_ms : ℕ) where
  pub each_within : IsUnitWithin calls way phase unit_ms
  each_within i x states after s u unit = unit_within (way x.track) x.packing x (sent_before phase) i states unit.octets x.octets unit.full

  pub all_within : AreWithin calls way phase unit_ms
  all_within [] states after s u all = omega arith
  all_within (x ∷ xs) states after s u all =
      let here = each_within x.0 x.1 states all.0 s all.1 all.2 in
      let rest = all_within xs all.0 after all.1 u all.3 in
      omega (arith, here, rest, sum_by-cons (λ (y : ℕ × Source). reserve_of y.1) x xs)
