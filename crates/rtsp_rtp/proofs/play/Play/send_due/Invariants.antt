use Rattle.std.proofs.Common.{◌≡◌, ◌≤◌, ◌-◌, ◌*◌, max, take, length}
use Rattle.rtsp_record.specs.Moments.{due}
use Rattle.rtsp_rtp.specs.Turns.{unsent_at, AllSent}
use Rattle.rtsp_rtp.specs.Progress.{phase_of, sent_at, IsPlaced, pacing_of}
use Rattle.rtsp_rtp.proofs.play.Play.send_due.Given as goal

-- what was sent so far
abbrev pub invariant-loop-sources : goal.invariant-loop-sources
invariant-loop-sources g l =
    let n = length l.self.sources in
    let from = sent_at n l.fn.at in
    let now = sent_at n l.at in
    record {
      placed : IsPlaced n l.at;
      begun : from ≤ now;
      within : now ≤ max from (due (phase_of l.self) l.self.unit_ms l.moment * n);
      room : length l.room ≡ length l.fn.room;
      sent : AllSent g.S.Sink.calls (phase_of l.self) l.self.unit_ms (take (now - from) (unsent_at (pacing_of l.self l.fn.at l.fn.states) l.moment)) l.fn.states l.states l.fn.sink l.sink;
    }

abbrev pub decreases-loop-sources : goal.decreases-loop-sources
decreases-loop-sources g l = due (phase_of l.self) l.self.unit_ms l.moment * length l.self.sources - sent_at (length l.self.sources) l.at
