use Rattle.std.proofs.Common.{◌≡◌, ◌≤◌, ◌+◌, ◌-◌, length}
use Rattle.rtsp_content.specs.PackingLimits.{packet_count}
use Rattle.rtsp_rtp.specs.Parts.{parts_from}
use Rattle.rtsp_rtp.specs.SenderStates.{counted_all}
use Rattle.rtsp_rtp.specs.UnitPackets.{part_packets}
use Rattle.rtsp_rtp.specs.Turns.{PacketsSent}
use Rattle.rtsp_rtp.proofs.parts_sent.send_parts.Given as goal

-- what is left is all that is missing
abbrev pub invariant-loop-packets : goal.invariant-loop-packets
invariant-loop-packets g l =
    let x = l.source in
    let n = l.start.number in
    let t = l.start.timestamp in
    let left = parts_from x.packing x.ticks l.unit (l.most - l.packets) l.packets l.at in
    let all = parts_from x.packing x.ticks l.unit l.most 0 0 in
    record {
      at : l.at ≤ length l.unit;
      few : l.packets ≤ l.most;
      most : l.most ≡ packet_count x.packing;
      sent : (u : _) → PacketsSent g.S.Sink.calls x.track (part_packets x n t l.unit l.state left.parts) l.sink u
          → PacketsSent g.S.Sink.calls x.track (part_packets x n t l.unit l.start.state all.parts) l.fn.sink u;
      packets : l.packets + length left.parts ≡ length all.parts;
      state : counted_all l.state left.parts ≡ counted_all l.start.state all.parts;
      fault : left.fault ≡ all.fault;
    }

abbrev pub decreases-loop-packets : goal.decreases-loop-packets
decreases-loop-packets g l = l.most - l.packets
