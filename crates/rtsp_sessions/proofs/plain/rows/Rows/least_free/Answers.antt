use Rattle.std.proofs.Common.{◌≡◌, ℕ, ◌+◌, ◌*◌, ◌-◌, ◌<◌, Bool, cond, true, false, sym, ap, ◌∙◌, arith}
use Rattle.std.specs.Prelude.{Option, Some}
use Rattle.rtsp_record.specs.Choices.{from_on, least_of}
use Rattle.rtsp_record.proofs.Choices.{least_start, least_step, least_end}
use Rattle.rtsp_sessions.specs.Ports.{step_of, count_in, is_free_at}
use Rattle.rtsp_sessions.proofs.plain.rows.Rows.least_free.Goals as goal

-- what the test of one more tells
tried : (step : ℕ) (takes : ℕ → Bool) (p i n : ℕ) (o : Option ℕ) (t : Bool) → i < n → least_of step takes (p + step * i) (n - i) ≡ o → takes (p + step * i) ≡ t → cond t (Some (p + step * i)) (least_of step takes (p + step * (i + 1)) (n - (i + 1))) ≡ o
tried step takes p i n o t lt is told =
    sym (least_step step takes p i n lt ∙ ap (λ t. cond t (Some (p + step * i)) (least_of step takes (p + step * (i + 1)) (n - (i + 1)))) told) ∙ is

pub loop-place-init : goal.loop-place-init
loop-place-init c =
    let ports = c.args.wanted in
    let w = c.args.whole.now in
    least_start (step_of ports) (from_on c.args.from (is_free_at ports c.args.self.now)) w.first_port (count_in w ports)

pub returns-then-is_candidate : goal.returns-then-is_candidate
returns-then-is_candidate c =
    let ports = c.args.wanted in
    let takes = from_on c.args.from (is_free_at ports c.args.self.now) in
    let w = c.args.whole.now in
    let at = c.first_at-first.ensures in
    ap (λ p. Some p) at
    ∙ tried (step_of ports) takes w.first_port c.loop-place.place (count_in w ports) _ true (omega (arith, c.count-place-end.ensures)) c.loop-place.invariant (ap takes (sym (c.from.ensures ∙ at)) ∙ sym c.is_candidate.ensures ∙ c.if-is_candidate.true)

pub loop-place-preserved : goal.loop-place-preserved
loop-place-preserved c =
    let ports = c.args.wanted in
    let takes = from_on c.args.from (is_free_at ports c.args.self.now) in
    let w = c.args.whole.now in
    let at = c.first_at-first.ensures in
    tried (step_of ports) takes w.first_port c.loop-place.place (count_in w ports) _ false (omega (arith, c.count-place-end.ensures)) c.loop-place.invariant (ap takes (sym (c.from.ensures ∙ at)) ∙ sym c.is_candidate.ensures ∙ c.if-is_candidate.false)

pub returns : goal.returns
returns c =
    let ports = c.args.wanted in
    let w = c.args.whole.now in
    let takes = from_on c.args.from (is_free_at ports c.args.self.now) in
    sym (sym c.loop-place.invariant ∙ least_end (step_of ports) takes _ (count_in w ports - c.loop-place.place) (omega (arith, c.count-place-end.ensures)))
