use Rattle.std.proofs.Common.{◌≡◌, ◌==◌, ◌<◌, List, length, ap, sym, ◌∙◌, subst, arith}
use Rattle.std.proofs.lemmas.Bool.{eq-eqb, eqb-true, eqb-false}
use Rattle.std.specs.Prelude.{IsTrue}
use Rattle.rtsp_rtp.specs.declared.source.Source.{Source}
use Rattle.rtsp_rtp.specs.Pacing.{Pacing, packets_in, units_in}
use Rattle.rtsp_rtp.specs.Progress.{phase_of}
use Rattle.rtsp_rtp.proofs.Progressing.{at_last, only_at_last}
use Rattle.rtsp_rtp.proofs.pacer.Pacer.is_at_end.Goals as goal

pub returns-else-is_empty : goal.returns-else-is_empty
returns-else-is_empty c =
    let at = c.self.inside.next in
    let n = length c.self.inside.play.sources in
    let units = units_in (phase_of c.self.inside.play) in
    let none : length c.as_slice.result.now ≡ 0 → ⊥ = eqb-false (length c.as_slice.result.now) 0 (sym c.is_empty.ensures ∙ c.if-is_empty.false) in
    let some : 0 < n = omega (arith, none, ap (λ (l : List Source). length l) c.as_slice.ensures.value) in
    subst (λ (q : Pacing). (IsTrue (at.unit == c.units.result) → q.done ≡ packets_in q) × (q.done ≡ packets_in q → IsTrue (at.unit == c.units.result))) c.self.view_is (
      λ is. at_last n at.unit at.place units c.self.invariant.pacing.sent (eqb-true at.unit c.units.result is ∙ c.units.ensures),
      λ is. eq-eqb at.unit c.units.result (only_at_last n at.unit at.place units some c.self.invariant.placed is ∙ sym c.units.ensures),
    )
