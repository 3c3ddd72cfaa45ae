use Rattle.std.proofs.Common.{◌<◌, ◌^◌, ℕ, sym, subst}
use Rattle.rtsp_rtp.specs.Pacing.{Pacing, units_in}
use Rattle.rtsp_rtp.specs.Turns.{unsent_at, SendsAll, SendsSome}
use Rattle.rtsp_rtp.specs.Progress.{pacing_of}
use Rattle.rtsp_rtp.specs.PacerView.{pacing_view}
use Rattle.rtsp_rtp.proofs.Turning.{all_count, some_count, all_on, some_on}
use Rattle.rtsp_rtp.proofs.Departing.{completed, continued, interrupted}
use Rattle.rtsp_rtp.proofs.pacer.Pacer.last_turn.Goals as goal

pub invariant_of-self : goal.invariant_of-self
invariant_of-self g c =
    record {
      pacing = some_on g.S.Sink.calls (pacing_view c.self.inside) c.min-until.result (pacing_of c.self.inside.play c.send_due.new.at c.send_due.new.states).done c.send_due.new.states _ _ c.self.invariant.pacing c.in-Err.ensures.err;
      placed = c.in-Err.ensures.placed;
    }

pub returns-in-Err-clause-turned : goal.returns-in-Err-clause-turned
returns-in-Err-clause-turned g c =
    let p = pacing_view c.self.inside in
    let q = pacing_of c.self.inside.play c.send_due.new.at c.send_due.new.states in
    let left = c.in-Some.left in
    let sends = subst (λ (k : ℕ). SendsSome g.S.Sink.calls p.phase p.unit_ms (unsent_at p k) p.done q.done p.states q.states c.args.sink.now c.send_due.new.sink) c.min-until.ensures c.in-Err.ensures.err in
    interrupted g.S.Sink.calls p c.args.self.now c.args.session c.args.phase left c.args.moment q.done q.states c.args.sink.now c.send_due.new.sink
    (record { is = c.self.view_is; unit = c.self.invariant.pacing.unit; few = subst (λ (o : Pacing). units_in o.phase < 2 ^ 32) (sym c.self.view_is) c.in-Some.ensures.few; at = c.in-Some.ensures.some }) sends

pub returns-in-Err-clause-counted : goal.returns-in-Err-clause-counted
returns-in-Err-clause-counted g c =
    let p = pacing_view c.self.inside in
    some_count g.S.Sink.calls p.phase p.unit_ms (unsent_at p c.min-until.result) p.done (pacing_of c.self.inside.play c.send_due.new.at c.send_due.new.states).done p.states c.send_due.new.states c.args.sink.now c.send_due.new.sink c.in-Err.ensures.err

pub invariant_of-self-then-moment-left : goal.invariant_of-self-then-moment-left
invariant_of-self-then-moment-left g c =
    record {
      pacing = all_on g.S.Sink.calls (pacing_view c.self.inside) c.min-until.result (pacing_of c.self.inside.play c.send_due.new.at c.send_due.new.states).done c.send_due.new.states _ _ c.self.invariant.pacing c.in_default-send_due.ensures.ok;
      placed = c.in_default-send_due.ensures.placed;
    }

pub returns-then-moment-left-clause-turned : goal.returns-then-moment-left-clause-turned
returns-then-moment-left-clause-turned g c =
    let p = pacing_view c.self.inside in
    let q = pacing_of c.self.inside.play c.send_due.new.at c.send_due.new.states in
    let left = c.in-Some.left in
    let sends = subst (λ (k : ℕ). SendsAll g.S.Sink.calls p.phase p.unit_ms (unsent_at p k) p.done q.done p.states q.states c.args.sink.now c.send_due.new.sink) c.min-until.ensures c.in_default-send_due.ensures.ok in
    continued g.S.Sink.calls p c.args.self.now c.args.session c.args.phase left c.args.moment q.done q.states c.args.sink.now c.send_due.new.sink
    (record { is = c.self.view_is; unit = c.self.invariant.pacing.unit; few = subst (λ (o : Pacing). units_in o.phase < 2 ^ 32) (sym c.self.view_is) c.in-Some.ensures.few; at = c.in-Some.ensures.some }) c.if-moment-left.true sends

pub returns-then-moment-left-clause-counted : goal.returns-then-moment-left-clause-counted
returns-then-moment-left-clause-counted g c =
    let p = pacing_view c.self.inside in
    all_count g.S.Sink.calls p.phase p.unit_ms (unsent_at p c.min-until.result) p.states c.send_due.new.states c.args.sink.now c.send_due.new.sink c.in_default-send_due.ensures.ok.sent

pub invariant_of-self-2 : goal.invariant_of-self-2
invariant_of-self-2 g c =
    record {
      pacing = all_on g.S.Sink.calls (pacing_view c.self.inside) c.min-until.result (pacing_of c.self.inside.play c.send_due.new.at c.send_due.new.states).done c.send_due.new.states _ _ c.self.invariant.pacing c.in_default-send_due.ensures.ok;
      placed = c.in_default-send_due.ensures.placed;
    }

pub returns-clause-turned : goal.returns-clause-turned
returns-clause-turned g c =
    let p = pacing_view c.self.inside in
    let q = pacing_of c.self.inside.play c.send_due.new.at c.send_due.new.states in
    let left = c.in-Some.left in
    let sends = subst (λ (k : ℕ). SendsAll g.S.Sink.calls p.phase p.unit_ms (unsent_at p k) p.done q.done p.states q.states c.args.sink.now c.send_due.new.sink) c.min-until.ensures c.in_default-send_due.ensures.ok in
    completed g.S.Sink.calls p c.args.self.now c.args.session c.args.phase left c.args.moment q.done q.states c.args.sink.now c.send_due.new.sink
    (record { is = c.self.view_is; unit = c.self.invariant.pacing.unit; few = subst (λ (o : Pacing). units_in o.phase < 2 ^ 32) (sym c.self.view_is) c.in-Some.ensures.few; at = c.in-Some.ensures.some }) c.if-moment-left.false sends

pub returns-clause-counted : goal.returns-clause-counted
returns-clause-counted g c =
    let p = pacing_view c.self.inside in
    all_count g.S.Sink.calls p.phase p.unit_ms (unsent_at p c.min-until.result) p.states c.send_due.new.states c.args.sink.now c.send_due.new.sink c.in_default-send_due.ensures.ok.sent
