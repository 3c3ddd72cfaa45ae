use Rattle.std.proofs.Common.{◌≡◌, ap, sym, subst, ℕ, List, Option}
use Rattle.rtsp_content.specs.StartsValue.{IsLastStart}
use Rattle.rtsp_content.specs.PresentationValue.{PresentationValue}
use Rattle.rtsp_content.proofs.StartsLemmas.{start_at-is}
use Rattle.rtsp_content.proofs.presentation.Presentation.start_at.Goals as goal

pub returns-clause-last : goal.returns-clause-last
returns-clause-last c =
    let starts = c.self.inside.starts in
    let same : starts ≡ c.args.self.now.starts = ap (λ (p : PresentationValue). p.starts) c.self.view_is in
    let last : IsLastStart starts c.args.asked c.at.result = subst (λ (n : ℕ). IsLastStart starts c.args.asked n) (sym c.at.ensures) (start_at-is c.self.inside.units starts c.args.asked c.self.invariant.0.starts) in
    subst (λ (o : Option (List ℕ)). IsLastStart o c.args.asked c.at.result) same last
