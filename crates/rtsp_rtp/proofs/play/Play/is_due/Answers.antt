use Rattle.std.proofs.Common.{◌≡◌, ℕ, ◌*◌, ◌-◌, ◌<◌, ap, ◌∙◌, arith}
use Rattle.std.proofs.lemmas.Bool.{le-leb, leb-true}
use Rattle.rtsp_rtp.specs.Pacing.{begun_at, units_in}
use Rattle.rtsp_rtp.specs.Progress.{phase_of}
use Rattle.rtsp_rtp.proofs.Dues.{due_from, due_only}
use Rattle.rtsp_rtp.proofs.play.Play.is_due.Goals as goal

pub returns-then-unit-units-clause-due : goal.returns-then-unit-units-clause-due
returns-then-unit-units-clause-due c =
    let p = phase_of c.args.self.now in
    let ms = c.args.self.now.unit_ms in
    let u = c.args.unit in
    let by = c.from.result * c.from-then-unit-units.result in
    let since = c.saturating_sub-passed.result in
    let within : u < units_in p = omega (arith, c.if-unit-units.true, c.units.ensures) in
    let length : by ≡ u * ms = ap (λ (n : ℕ). n * c.from-then-unit-units.result) c.from.ensures ∙ ap (λ (n : ℕ). u * n) c.from-then-unit-units.ensures in
    let passed : since ≡ c.args.moment - begun_at p = c.saturating_sub-passed.ensures in (
      λ is. due_from p ms c.args.moment u c.requires.some within (omega (arith, leb-true by since is, length, passed)),
      λ is. le-leb by since (omega (arith, due_only p ms c.args.moment u is, length, passed)),
    )
