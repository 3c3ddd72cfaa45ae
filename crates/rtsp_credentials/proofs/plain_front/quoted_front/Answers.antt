use Rattle.std.proofs.Common.{◌∙◌, ap, Some, None, ◌∷◌, ℕ}
use Rattle.rtsp_credentials.proofs.Fronts.{quoted_ends, no_length}
use Rattle.rtsp_credentials.proofs.plain_front.quoted_front.Goals as goal

pub returns-in-None : goal.returns-in-None
returns-in-None c =
    quoted_ends c.args.rest.now c.in_ok-value.value.now c.in_ok-value.behind.now None c.in_ok-value.ensures.0 (no_length c.in_ok-value.behind.now c.in-None.ensures.cases) c.in_ok-value.ensures.1

pub returns-then-next-eq44 : goal.returns-then-next-eq44
returns-then-next-eq44 c =
    quoted_ends c.args.rest.now c.in_ok-value.value.now c.in_ok-value.behind.now (Some c.in-Some.left.now) c.in_ok-value.ensures.0
    (c.in-Some.ensures.cases.0 ∙ ap (λ (n : ℕ). n ∷ c.in-Some.left.now) c.if-next-eq44.true) c.in_ok-value.ensures.1
