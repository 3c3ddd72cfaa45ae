use Rattle.std.proofs.Common.{◌≡◌, ◌+◌, ◌-◌, ◌*◌, ◌%◌, ◌^◌, ◌<◌, refl, ap, sym, ◌∙◌, min, arith, ℕ}
use Rattle.rtsp_record.specs.Moments.{due, sent_with_due}
use Rattle.rtsp_record.specs.declared.phases.Phase.{Phase}
use Rattle.rtsp_rtp.specs.Progress.{phase_of}
use Rattle.rtsp_rtp.proofs.Dues.{due_most}
use Rattle.rtsp_rtp.proofs.Departing.{first_due, wraps, due_few}
use Rattle.rtsp_rtp.proofs.play.Play.counted_by.Goals as goal

pub returns-then-units-count-clause-none : goal.returns-then-units-count-clause-none
returns-then-units-count-clause-none c = λ m within is.
    let y = c.args.self.now in
    let p = phase_of y in
    let n = due p y.unit_ms m in
    let few : n < 2 ^ 32 = due_few p y.unit_ms m (omega (arith, c.units.ensures)) in
    let count : (c.args.sent + (2 ^ 32 - y.sent)) % 2 ^ 32 ≡ n = wraps y.sent n c.args.sent (omega arith) few is in
    omega (arith, count, c.if-units-count.true, c.units.ensures, due_most p y.unit_ms m)

pub returns-else-sent_with_due-sent-clause-none : goal.returns-else-sent_with_due-sent-clause-none
returns-else-sent_with_due-sent-clause-none c = λ m within is.
    let y = c.args.self.now in
    let p = phase_of y in
    let n = due p y.unit_ms m in
    let few : n < 2 ^ 32 = due_few p y.unit_ms m (omega (arith, c.units.ensures)) in
    let count : (c.args.sent + (2 ^ 32 - y.sent)) % 2 ^ 32 ≡ n = wraps y.sent n c.args.sent (omega arith) few is in
    let last = c.due_at.ensures ∙ ap (λ (k : ℕ). min (y.since + (k - 1) * y.unit_ms) (2 ^ 64 - 1)) count in
    let same : due p y.unit_ms (min c.due_at.result c.args.end) ≡ n = first_due p y.unit_ms m c.args.end c.due_at.result n c.requires refl within c.ranges.end.fits last in
    let told : c.sent_with_due.result ≡ sent_with_due p y.unit_ms c.min-moment.result =
    c.sent_with_due.ensures ∙ ap (λ (q : Phase). sent_with_due q y.unit_ms c.min-moment.result) c.phase-play.ensures
    in
    let sum : c.sent_with_due.result ≡ c.args.sent =
    told ∙ (ap (λ (k : ℕ). sent_with_due p y.unit_ms k) c.min-moment.ensures ∙ (ap (λ (k : ℕ). (y.sent + k) % 2 ^ 32) same ∙ sym is))
    in
    c.if-sent_with_due-sent.false sum
