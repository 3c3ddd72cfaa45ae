use Rattle.std.proofs.Common.{◌≡◌, ◌+◌, ◌-◌, ◌%◌, ◌^◌, ◌++◌, ◌∷◌, [], ◌∙◌, length, ℕ, List, refl, ap, sym, subst, arith, Option, Some, None, Ok, Err}
use Rattle.std.proofs.Math.Nat.{add-mod-mod}
use Rattle.std.specs.Prelude.{slice_range}
use Rattle.rtsp_content.specs.PackingLimits.{packet_count}
use Rattle.rtsp_rtp.specs.declared.part.Part.{Part}
use Rattle.rtsp_rtp.specs.declared.part.SlotFault.{SlotFault}
use Rattle.rtsp_rtp.specs.declared.parts_sent.PartsSent.{PartsSent}
use Rattle.rtsp_rtp.specs.declared.sender_state.SenderState.{SenderState}
use Rattle.rtsp_rtp.specs.Packets.{marked_header}
use Rattle.rtsp_rtp.specs.Parts.{Found, Parts, after_found, part_at, parts_from, parts_of, payload_in}
use Rattle.rtsp_rtp.specs.SenderStates.{counted, counted_all}
use Rattle.rtsp_rtp.specs.UnitPackets.{part_packet, part_packets}
use Rattle.rtsp_rtp.specs.Sinks.{Sent}
use Rattle.rtsp_rtp.specs.Turns.{PacketsSent}
use Rattle.rtsp_rtp.proofs.Parting.{part_inside, parts_by, parts_past}
use Rattle.rtsp_rtp.proofs.Sending.{sent_more, sent_none}
use Rattle.rtsp_rtp.proofs.parts_sent.send_parts.Goals as goal

abbrev ok : Option Part → Found
ok o = Ok o

abbrev nothing : Option SlotFault → Parts
nothing fault = record { parts = []; fault = fault }

pub loop-packets-preserved : goal.loop-packets-preserved
loop-packets-preserved g c =
    let calls = g.S.Sink.calls in
    let x = c.args.source.now in
    let unit = c.args.unit.now in
    let was = c.loop-packets.invariant in
    let k = c.loop-packets.packets in
    let at = c.loop-packets.at in
    let m = c.packet_count-most.result in
    let n = c.args.start.number in
    let t = c.args.start.timestamp in
    let state = c.loop-packets.state in
    let p = c.in-Ok-Some.part in
    let is : part_at x.packing x.ticks unit k at ≡ Ok (Some p) = sym c.in-Ok-Some.ensures.value ∙ (ap ok c.in-Ok-Some.field-0-is ∙ ap (λ (q : Part). Ok (Some q)) c.in-Ok-Some.part-is) in
    let by = parts_by x.packing x.ticks unit k m at (Ok (Some p)) c.loop-packets-test.true is in
    let number : (n + state.packets % 65536) % 2 ^ 16 ≡ (n + state.packets) % 2 ^ 16 = add-mod-mod n state.packets (2 ^ 16) in
    let bytes : c.put_marked.new.self ≡ part_packet x n t unit state p = c.put_marked.ensures ∙ ap (λ (q : ℕ). marked_header x p.marker q ((t + p.offset) % 2 ^ 32) ++ payload_in unit p) number in
    let one : Sent calls x.track (part_packet x n t unit state p) c.loop-packets.sink c.send.new.self = subst (λ (b : List ℕ). Sent calls x.track b c.loop-packets.sink c.send.new.self) bytes c.send.ensures in
    let after : c.counted-state.result ≡ counted state p = c.counted-state.ensures in
    let left = (parts_from x.packing x.ticks unit (m - (k + 1)) (k + 1) p.end).parts in
    record {
      at = (part_inside unit at p x.packing x.ticks k is).within;
      few = omega (arith, c.loop-packets-test.true);
      most = was.most;
      sent = λ u rest.
          was.sent u (sent_more calls x n t x.packing x.ticks unit k m at p state c.loop-packets.sink c.send.new.self u c.loop-packets-test.true is one
          (subst (λ (s : SenderState). PacketsSent calls x.track (part_packets x n t unit s left) c.send.new.self u) after rest));
      packets = omega (arith, was.packets, ap (λ (r : Parts). length r.parts) by);
      state = ap (λ (s : SenderState). counted_all s left) after ∙ (sym (ap (λ (r : Parts). counted_all state r.parts) by) ∙ was.state);
      fault = sym (ap (λ (r : Parts). r.fault) by) ∙ was.fault;
    }

pub returns-in-Ok-None-clause-sent : goal.returns-in-Ok-None-clause-sent
returns-in-Ok-None-clause-sent g c =
    let calls = g.S.Sink.calls in
    let x = c.args.source.now in
    let unit = c.args.unit.now in
    let k = c.loop-packets.packets in
    let m = c.packet_count-most.result in
    let was = c.loop-packets.invariant in
    let gone : parts_from x.packing x.ticks unit (m - k) k c.loop-packets.at ≡ nothing None = parts_by x.packing x.ticks unit k m c.loop-packets.at (Ok None) c.loop-packets-test.true (sym c.in-Ok-None.ensures.value ∙ ap ok c.in-Ok-None.field-0-is) in
    let s = c.loop-packets.sink in
    let all = was.sent s (sent_none calls x c.args.start.number c.args.start.timestamp x.packing x.ticks unit c.loop-packets.state (parts_from x.packing x.ticks unit (m - k) k c.loop-packets.at).parts s (ap (λ (r : Parts). r.parts) gone)) in
    subst (λ (j : ℕ). PacketsSent calls x.track (part_packets x c.args.start.number c.args.start.timestamp unit c.args.start.state (parts_from x.packing x.ticks unit j 0 0).parts) c.args.sink.now s) was.most all

pub returns-in-Ok-None-clause-packets : goal.returns-in-Ok-None-clause-packets
returns-in-Ok-None-clause-packets g c =
    let x = c.args.source.now in
    let unit = c.args.unit.now in
    let k = c.loop-packets.packets in
    let m = c.packet_count-most.result in
    let was = c.loop-packets.invariant in
    let gone : parts_from x.packing x.ticks unit (m - k) k c.loop-packets.at ≡ nothing None = parts_by x.packing x.ticks unit k m c.loop-packets.at (Ok None) c.loop-packets-test.true (sym c.in-Ok-None.ensures.value ∙ ap ok c.in-Ok-None.field-0-is) in
    let count : k ≡ length (parts_from x.packing x.ticks unit m 0 0).parts = omega (arith, was.packets, ap (λ (r : Parts). length r.parts) gone) in
    ap (λ (r : PartsSent). r.packets) c.sound.ensures ∙ (count ∙ ap (λ (j : ℕ). length (parts_from x.packing x.ticks unit j 0 0).parts) was.most)

pub returns-in-Ok-None-clause-state : goal.returns-in-Ok-None-clause-state
returns-in-Ok-None-clause-state g c =
    let x = c.args.source.now in
    let unit = c.args.unit.now in
    let k = c.loop-packets.packets in
    let m = c.packet_count-most.result in
    let was = c.loop-packets.invariant in
    let gone : parts_from x.packing x.ticks unit (m - k) k c.loop-packets.at ≡ nothing None = parts_by x.packing x.ticks unit k m c.loop-packets.at (Ok None) c.loop-packets-test.true (sym c.in-Ok-None.ensures.value ∙ ap ok c.in-Ok-None.field-0-is) in
    let all : c.loop-packets.state ≡ counted_all c.args.start.state (parts_from x.packing x.ticks unit m 0 0).parts = sym (ap (λ (r : Parts). counted_all c.loop-packets.state r.parts) gone) ∙ was.state in
    ap (λ (r : PartsSent). r.state) c.sound.ensures ∙ (all ∙ ap (λ (j : ℕ). counted_all c.args.start.state (parts_from x.packing x.ticks unit j 0 0).parts) was.most)

pub returns-in-Ok-None-clause-fault : goal.returns-in-Ok-None-clause-fault
returns-in-Ok-None-clause-fault g c =
    let x = c.args.source.now in
    let unit = c.args.unit.now in
    let k = c.loop-packets.packets in
    let m = c.packet_count-most.result in
    let was = c.loop-packets.invariant in
    let gone : parts_from x.packing x.ticks unit (m - k) k c.loop-packets.at ≡ nothing None = parts_by x.packing x.ticks unit k m c.loop-packets.at (Ok None) c.loop-packets-test.true (sym c.in-Ok-None.ensures.value ∙ ap ok c.in-Ok-None.field-0-is) in
    ap (λ (r : PartsSent). r.fault) c.sound.ensures ∙ (sym (ap (λ (r : Parts). r.fault) gone) ∙ (was.fault ∙ ap (λ (j : ℕ). (parts_from x.packing x.ticks unit j 0 0).fault) was.most))

pub returns-in-Err-clause-sent : goal.returns-in-Err-clause-sent
returns-in-Err-clause-sent g c =
    let calls = g.S.Sink.calls in
    let x = c.args.source.now in
    let unit = c.args.unit.now in
    let k = c.loop-packets.packets in
    let m = c.packet_count-most.result in
    let was = c.loop-packets.invariant in
    let gone : parts_from x.packing x.ticks unit (m - k) k c.loop-packets.at ≡ nothing (Some c.in-Err.fault) = parts_by x.packing x.ticks unit k m c.loop-packets.at (Err c.in-Err.fault) c.loop-packets-test.true (sym c.in-Err.ensures.value) in
    let s = c.loop-packets.sink in
    let all = was.sent s (sent_none calls x c.args.start.number c.args.start.timestamp x.packing x.ticks unit c.loop-packets.state (parts_from x.packing x.ticks unit (m - k) k c.loop-packets.at).parts s (ap (λ (r : Parts). r.parts) gone)) in
    subst (λ (j : ℕ). PacketsSent calls x.track (part_packets x c.args.start.number c.args.start.timestamp unit c.args.start.state (parts_from x.packing x.ticks unit j 0 0).parts) c.args.sink.now s) was.most all

pub returns-in-Err-clause-packets : goal.returns-in-Err-clause-packets
returns-in-Err-clause-packets g c =
    let x = c.args.source.now in
    let unit = c.args.unit.now in
    let k = c.loop-packets.packets in
    let m = c.packet_count-most.result in
    let was = c.loop-packets.invariant in
    let gone : parts_from x.packing x.ticks unit (m - k) k c.loop-packets.at ≡ nothing (Some c.in-Err.fault) = parts_by x.packing x.ticks unit k m c.loop-packets.at (Err c.in-Err.fault) c.loop-packets-test.true (sym c.in-Err.ensures.value) in
    let count : k ≡ length (parts_from x.packing x.ticks unit m 0 0).parts = omega (arith, was.packets, ap (λ (r : Parts). length r.parts) gone) in
    ap (λ (r : PartsSent). r.packets) c.faulty.ensures ∙ (count ∙ ap (λ (j : ℕ). length (parts_from x.packing x.ticks unit j 0 0).parts) was.most)

pub returns-in-Err-clause-state : goal.returns-in-Err-clause-state
returns-in-Err-clause-state g c =
    let x = c.args.source.now in
    let unit = c.args.unit.now in
    let k = c.loop-packets.packets in
    let m = c.packet_count-most.result in
    let was = c.loop-packets.invariant in
    let gone : parts_from x.packing x.ticks unit (m - k) k c.loop-packets.at ≡ nothing (Some c.in-Err.fault) = parts_by x.packing x.ticks unit k m c.loop-packets.at (Err c.in-Err.fault) c.loop-packets-test.true (sym c.in-Err.ensures.value) in
    let all : c.loop-packets.state ≡ counted_all c.args.start.state (parts_from x.packing x.ticks unit m 0 0).parts = sym (ap (λ (r : Parts). counted_all c.loop-packets.state r.parts) gone) ∙ was.state in
    ap (λ (r : PartsSent). r.state) c.faulty.ensures ∙ (all ∙ ap (λ (j : ℕ). counted_all c.args.start.state (parts_from x.packing x.ticks unit j 0 0).parts) was.most)

pub returns-in-Err-clause-fault : goal.returns-in-Err-clause-fault
returns-in-Err-clause-fault g c =
    let x = c.args.source.now in
    let unit = c.args.unit.now in
    let k = c.loop-packets.packets in
    let m = c.packet_count-most.result in
    let was = c.loop-packets.invariant in
    let gone : parts_from x.packing x.ticks unit (m - k) k c.loop-packets.at ≡ nothing (Some c.in-Err.fault) = parts_by x.packing x.ticks unit k m c.loop-packets.at (Err c.in-Err.fault) c.loop-packets-test.true (sym c.in-Err.ensures.value) in
    ap (λ (r : PartsSent). r.fault) c.faulty.ensures ∙ (sym (ap (λ (r : Parts). r.fault) gone) ∙ (was.fault ∙ ap (λ (j : ℕ). (parts_from x.packing x.ticks unit j 0 0).fault) was.most))
