use Rattle.std.proofs.Common.{◌≡◌, ◌+◌, ◌*◌, ◌/◌, ◌^◌, ◌<◌, length, sym, ◌∙◌, subst, arith}
use Rattle.std.specs.Prelude.{IfSome, IfNone, SomeIff}
use Rattle.std.proofs.lemmas.Bool.{false≢true}
use Rattle.rtsp_rtp.specs.Pacing.{Pacing, begun_at, packets_in}
use Rattle.rtsp_rtp.specs.PacerView.{pacing_view}
use Rattle.rtsp_rtp.specs.Moments.{IsNextDue, IsNeverDue}
use Rattle.rtsp_rtp.proofs.Dues.{unsent, next_is, never_is}
use Rattle.rtsp_rtp.proofs.Progressing.{moment_of}
use Rattle.rtsp_rtp.proofs.pacer.Pacer.next_due.Goals as goal

pub returns : goal.returns
returns c =
    let p = pacing_view c.self.inside in
    let at = c.self.inside.next in
    let n = length c.self.inside.play.sources in
    let is = c.self.invariant in
    let left = unsent p is.pacing (λ same. false≢true (sym c.if-is_at_end.false ∙ c.is_at_end.ensures.1 (subst (λ (q : Pacing). q.done ≡ packets_in q) c.self.view_is same))) in
    let passed = c.from.result * c.from-2.result in
    let at_unit : passed ≡ p.done / length p.sources * p.unit_ms = moment_of n at.unit at.place p.unit_ms c.from.result c.from-2.result left.some is.placed c.from.ensures c.from-2.ensures in
    let o = c.checked_add.result in
    let found : SomeIff o (begun_at p.phase + passed < 2 ^ 64) (begun_at p.phase + passed) = c.checked_add.ensures in
    let began : begun_at p.phase < 2 ^ 64 = omega arith in
    record {
      some = subst (λ (q : Pacing). IfSome o (IsNextDue q)) c.self.view_is (next_is p o passed left at_unit found);
      none = subst (λ (q : Pacing). IfNone o (IsNeverDue q)) c.self.view_is (never_is p o passed left began at_unit found);
    }
