use Rattle.std.proofs.Common.{◌≡◌, ◌<◌, ◌==◌, ℕ, refl, ap, sym, ◌∙◌, subst, arith, Option, Some, None, Bool, true}
use Rattle.std.proofs.lemmas.Bool.{eqb-true}
use Rattle.std.specs.FinMap.{entries}
use Rattle.rtsp_record.specs.declared.holdings.Admission.{Admission}
use Rattle.rtsp_record.specs.declared.streams.Stream.{Stream}
use Rattle.rtsp_sessions.specs.Searches.{first_with, is_of_track, is_track}
use Rattle.rtsp_rtp.proofs.Founding.{first-passes}
use Rattle.rtsp_rtp.proofs.sources.source_under.Goals as goal

pub returns-clause-within : goal.returns-clause-within
returns-clause-within c =
    let t = c.args.index in
    let rows = entries c.args.view.now.1.admissions in
    let found : first_with (is_of_track t) rows ≡ Some (c.in_ok-admission.field-0-0, c.in_ok-admission.admission) = sym c.in_ok-admission.ensures in
    let passes : is_track t c.in_ok-admission.admission.stream ≡ true = first-passes (is_of_track t) rows (c.in_ok-admission.field-0-0, c.in_ok-admission.admission) found in
    let same : c.in_ok-stream.stream.track ≡ t = eqb-true c.in_ok-stream.stream.track t (ap (λ (o : Option Stream). is_track t o) (sym c.in_ok-stream.was) ∙ passes) in
    c.of.ensures.within (omega (arith, same, c.requires))
