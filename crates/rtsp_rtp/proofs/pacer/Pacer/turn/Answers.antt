use Rattle.std.proofs.Common.{sym, ◌∙◌, rules}
use Rattle.std.proofs.Math.Arith.{lt_of_le-ne}
use Rattle.std.proofs.lemmas.Bool.{false≢true}
use Rattle.rtsp_rtp.specs.Turns.{unsent_at}
use Rattle.rtsp_rtp.specs.Progress.{pacing_of}
use Rattle.rtsp_rtp.specs.PacerView.{pacing_view}
use Rattle.rtsp_rtp.proofs.Turning.{all_count, some_count, all_within, all_on, some_on}
use Rattle.rtsp_rtp.proofs.pacer.Pacer.turn.Goals as goal

pub invariant_of-self : goal.invariant_of-self
invariant_of-self g c =
    record {
      pacing = some_on g.S.Sink.calls (pacing_view c.self.inside) c.args.moment (pacing_of c.self.inside.play c.send_due.new.at c.send_due.new.states).done c.send_due.new.states _ _ c.self.invariant.pacing c.in-Err.ensures.err;
      placed = c.in-Err.ensures.placed;
    }

pub returns-in-Err-clause-counted : goal.returns-in-Err-clause-counted
returns-in-Err-clause-counted g c =
    let p = pacing_view c.self.inside in
    some_count g.S.Sink.calls p.phase p.unit_ms (unsent_at p c.args.moment) p.done (pacing_of c.self.inside.play c.send_due.new.at c.send_due.new.states).done p.states c.send_due.new.states c.args.sink.now c.send_due.new.sink c.in-Err.ensures.err

pub invariant_of-self-2 : goal.invariant_of-self-2
invariant_of-self-2 g c =
    record {
      pacing = all_on g.S.Sink.calls (pacing_view c.self.inside) c.args.moment (pacing_of c.self.inside.play c.send_due.new.at c.send_due.new.states).done c.send_due.new.states _ _ c.self.invariant.pacing c.in_default.ensures.ok;
      placed = c.in_default.ensures.placed;
    }

pub returns-then-is_at_end-clause-counted : goal.returns-then-is_at_end-clause-counted
returns-then-is_at_end-clause-counted g c =
    let p = pacing_view c.self.inside in
    all_count g.S.Sink.calls p.phase p.unit_ms (unsent_at p c.args.moment) p.states c.send_due.new.states c.args.sink.now c.send_due.new.sink c.in_default.ensures.ok.sent

pub returns-clause-turned : goal.returns-clause-turned
returns-clause-turned g c =
    let p = pacing_view c.self.inside in
    let q = pacing_of c.self.inside.play c.send_due.new.at c.send_due.new.states in
    let within = all_within g.S.Sink.calls p c.args.moment q.done c.send_due.new.states _ _ c.self.invariant.pacing c.in_default.ensures.ok in
    (search rules, lt_of_le-ne within (λ same. false≢true (sym c.if-is_at_end.false ∙ c.is_at_end.ensures.1 same)))

pub returns-clause-counted : goal.returns-clause-counted
returns-clause-counted g c =
    let p = pacing_view c.self.inside in
    all_count g.S.Sink.calls p.phase p.unit_ms (unsent_at p c.args.moment) p.states c.send_due.new.states c.args.sink.now c.send_due.new.sink c.in_default.ensures.ok.sent
