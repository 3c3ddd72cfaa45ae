use Rattle.std.proofs.Common.{◌≡◌, ◌+◌, ◌*◌, ◌-◌, ◌^◌, ◌%◌, ◌<◌, ◌≤◌, min, ℕ, List, [], ap, sym, ◌∙◌, arith}
use Rattle.rtsp_rtp.specs.Packets.{timestamp_after}
use Rattle.rtsp_rtp.specs.Reports.{report_of, due_moment, unit_report}
use Rattle.rtsp_rtp.specs.Progress.{phase_of}
use Rattle.rtsp_rtp.proofs.Counting.{timestamp_wraps}
use Rattle.rtsp_rtp.proofs.Sending.{reports_now}
use Rattle.rtsp_rtp.proofs.play.Play.report_behind.Goals as goal

pub returns-clause-reports : goal.returns-clause-reports
returns-clause-reports g c =
    let y = c.args.self.now in
    let x = c.args.source.now in
    let i = c.args.unit in
    let sent = c.args.sent in
    let moment : c.saturating_add-moment.result ≡ due_moment y.since y.unit_ms i = omega (arith, c.saturating_add-moment.ensures, ap (λ (n : ℕ). n * c.from-3.result) c.from-2.ensures, ap (λ (n : ℕ). i * n) c.from-3.ensures) in
    let stamp : c.timestamp-timestamp.result ≡ timestamp_after x (y.sent + i) = c.timestamp-timestamp.ensures ∙ timestamp_wraps x (y.sent + i) in
    let report : c.put_whole.new.self ≡ unit_report y.since y.unit_ms y.sent x i sent.state =
    c.put_whole.ensures ∙ (c.report.ensures ∙ (ap (λ (w : ℕ). report_of x w c.timestamp-timestamp.result sent.state) moment
    ∙ ap (λ (t : ℕ). report_of x (due_moment y.since y.unit_ms i) t sent.state) stamp)) in
    let some : 0 < sent.packets = omega (arith, c.if-sent-eq0.false) in
    let due : sent.state.reports_from ≤ i = omega (arith, c.if-from-state.false, c.from.ensures) in
    reports_now g.S.Sink.calls (phase_of y) y.unit_ms i x [] [] sent.state sent.packets c.put_whole.new.self c.args.sink.now c.report-2.new.self some due report c.report-2.ensures
