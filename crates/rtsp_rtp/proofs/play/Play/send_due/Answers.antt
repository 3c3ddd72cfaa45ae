use Rattle.std.proofs.Common.{None, ◌≡◌, ℕ, suc, ◌+◌, ◌-◌, ◌*◌, ◌<◌, ◌≤◌, List, length, get_or, take, drop, refl, sym, ap, ◌∙◌, subst, arith, length-drop}
use Rattle.std.proofs.lemmas.Bool.{eqb-true, eqb-false, false≢true}
use Rattle.rtsp_record.specs.Moments.{due}
use Rattle.rtsp_rtp.specs.declared.source.Source.{Source}
use Rattle.rtsp_content.specs.declared.packing.Packing.TheVariants.{Single}
use Rattle.rtsp_rtp.specs.Pacing.{schedule}
use Rattle.rtsp_rtp.specs.declared.sender_state.SenderState.{SenderState}
use Rattle.rtsp_rtp.specs.Turns.{AllSent}
use Rattle.rtsp_rtp.specs.Progress.{phase_of, sent_at, IsPlaced}
use Rattle.rtsp_rtp.proofs.Scheduling.{next_at, sent_next, schedule-length}
use Rattle.rtsp_rtp.proofs.Progressing.{before_due, past_due}
use Rattle.rtsp_rtp.proofs.Turning.{on_err, sends_all}
use Rattle.rtsp_rtp.proofs.play.Play.send_due.Goals as goal

-- a place is among the sources, where there are any
among_them : (ys xs : List Source) (place : ℕ) → ys ≡ xs → (length ys ≡ 0 → ⊥) → place ≤ length xs - 1 → place < length ys
among_them ys xs place same some placed = omega (arith, ap (λ (l : List Source). length l) same, some, placed)

less_left : (all now new : ℕ) → now < all → new ≡ now + 1 → all - new < all - now
less_left all now new below more = omega (arith, below, more)

pub returns-then-is_empty-clause-ok : goal.returns-then-is_empty-clause-ok
returns-then-is_empty-clause-ok g c =
    let calls = g.S.Sink.calls in
    let y = c.args.self.now in
    let n = length y.sources in
    let from = sent_at n c.args.at.now in
    let units = due (phase_of y) y.unit_ms c.args.moment in
    let left = drop from (schedule y.sources 0 units) in
    let none : n ≡ 0 = sym (ap (λ (l : List Source). length l) c.as_slice-sources.ensures.value) ∙ eqb-true (length c.as_slice-sources.result.now) 0 (sym c.is_empty.ensures ∙ c.if-is_empty.true) in
    let no_units : units * n ≡ units * 0 = ap (λ (m : ℕ). units * m) none in
    let start : from - from ≡ 0 = omega arith in
    sends_all calls (phase_of y) y.unit_ms left from from c.args.states.now c.args.states.now c.args.sink.now c.args.sink.now (omega arith)
    (omega (arith, no_units, start, length-drop from (schedule y.sources 0 units), schedule-length y.sources 0 units))
    (subst (λ (m : ℕ). AllSent calls (phase_of y) y.unit_ms (take m left) c.args.states.now c.args.states.now c.args.sink.now c.args.sink.now) (sym start) (refl, refl))

pub returns-in_err-send-clause-err : goal.returns-in_err-send-clause-err
returns-in_err-send-clause-err g c =
    let y = c.args.self.now in
    let ys = c.as_slice-sources.result.now in
    let n = length y.sources in
    let at = c.loop-sources.at in
    let from = sent_at n c.args.at.now in
    let units = due (phase_of y) y.unit_ms c.args.moment in
    let was = c.loop-sources.invariant in
    let same = c.as_slice-sources.ensures.value in
    let among : at.place < length ys = among_them ys y.sources at.place same (eqb-false (length ys) 0 (sym c.is_empty.ensures ∙ c.if-is_empty.false)) was.placed in
    let d : Source = record { track = 0; payload_type = 0; packing = Single; octets = 0; ticks = 0; ssrc = 0; seq = 0; rtptime = 0 } in
    on_err c.from_residual.result
    (record {
      count = sent_at n at - from;
      done = omega (arith, was.begun);
      next = (at.unit, get_or ys at.place d);
      is_next = next_at y.sources ys units from at.unit at.place d same among (c.is_due.ensures.due.0 c.loop-sources-test.true) was.begun;
      between = c.loop-sources.sink;
      sent = subst (λ (e : List SenderState). AllSent g.S.Sink.calls (phase_of y) y.unit_ms (take (sent_at n at - from) (drop from (schedule y.sources 0 units))) c.args.states.now e c.args.sink.now c.loop-sources.sink) (sym c.in_err-send.ensures.kept) was.sent;
      failed = c.in_err-send.ensures.err;
    })

pub loop-sources-smaller : goal.loop-sources-smaller
loop-sources-smaller g c =
    let y = c.args.self.now in
    let ys = c.as_slice-sources.result.now in
    let n = length y.sources in
    let at = c.loop-sources.at in
    let units = due (phase_of y) y.unit_ms c.args.moment in
    let same = c.as_slice-sources.ensures.value in
    let among : at.place < n = subst (λ (l : List Source). at.place < length l) same (among_them ys y.sources at.place same (eqb-false (length ys) 0 (sym c.is_empty.ensures ∙ c.if-is_empty.false)) c.loop-sources.invariant.placed) in
    let below : sent_at n at < units * n = before_due n at.unit at.place units among (c.is_due.ensures.due.0 c.loop-sources-test.true) in
    let more : sent_at n c.step.new.self ≡ sent_at n at + 1 = subst (λ (l : List Source). sent_at (length l) c.step.new.self ≡ sent_at (length l) at + 1) same c.step.ensures.next in
    less_left (units * n) (sent_at n at) (sent_at n c.step.new.self) below more

pub loop-sources-preserved : goal.loop-sources-preserved
loop-sources-preserved g c =
    let calls = g.S.Sink.calls in
    let y = c.args.self.now in
    let ys = c.as_slice-sources.result.now in
    let n = length y.sources in
    let at = c.loop-sources.at in
    let from = sent_at n c.args.at.now in
    let now = sent_at n at in
    let new = sent_at n c.step.new.self in
    let units = due (phase_of y) y.unit_ms c.args.moment in
    let left = drop from (schedule y.sources 0 units) in
    let was = c.loop-sources.invariant in
    let same = c.as_slice-sources.ensures.value in
    let among : at.place < length ys = among_them ys y.sources at.place same (eqb-false (length ys) 0 (sym c.is_empty.ensures ∙ c.if-is_empty.false)) was.placed in
    let is : at.unit < units = c.is_due.ensures.due.0 c.loop-sources-test.true in
    let below : now < units * n = before_due n at.unit at.place units (subst (λ (l : List Source). at.place < length l) same among) is in
    let more : new ≡ now + 1 = subst (λ (l : List Source). sent_at (length l) c.step.new.self ≡ sent_at (length l) at + 1) same c.step.ensures.next in
    let count : suc (now - from) ≡ new - from = omega (arith, was.begun, more) in
    let d : Source = record { track = 0; payload_type = 0; packing = Single; octets = 0; ticks = 0; ssrc = 0; seq = 0; rtptime = 0 } in
    let x : ℕ × Source = (at.unit, get_or ys at.place d) in
    let sent = sent_next calls (phase_of y) y.unit_ms left (now - from) x c.args.states.now c.loop-sources.states c.send.new.states c.args.sink.now c.loop-sources.sink c.send.new.sink was.sent (next_at y.sources ys units from at.unit at.place d same among is was.begun) c.in_ok-send.ensures.ok in
    record {
      placed = subst (λ (l : List Source). IsPlaced (length l) c.step.new.self) same c.step.ensures.placed;
      begun = omega (arith, was.begun, more);
      within = omega (arith, was.begun, below, more);
      sent = subst (λ (m : ℕ). AllSent calls (phase_of y) y.unit_ms (take m left) c.args.states.now c.send.new.states c.args.sink.now c.send.new.sink) count sent;
      room = c.send.ensures.room ∙ was.room;
    }

pub returns-clause-ok : goal.returns-clause-ok
returns-clause-ok g c =
    let calls = g.S.Sink.calls in
    let y = c.args.self.now in
    let n = length y.sources in
    let at = c.loop-sources.at in
    let from = sent_at n c.args.at.now in
    let now = sent_at n at in
    let units = due (phase_of y) y.unit_ms c.args.moment in
    let left = drop from (schedule y.sources 0 units) in
    let was = c.loop-sources.invariant in
    let past : units * n ≤ now = past_due n at.unit at.place units (λ is. false≢true (sym c.loop-sources-test.false ∙ c.is_due.ensures.due.1 is)) in
    sends_all calls (phase_of y) y.unit_ms left from now c.args.states.now c.loop-sources.states c.args.sink.now c.loop-sources.sink was.begun
    (omega (arith, was.begun, was.within, past, length-drop from (schedule y.sources 0 units), schedule-length y.sources 0 units))
    was.sent
