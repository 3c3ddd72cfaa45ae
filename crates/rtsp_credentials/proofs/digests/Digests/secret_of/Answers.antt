use Rattle.std.proofs.Common.{ℕ, List, Some, ◌∙◌, sym, ap}
use Rattle.rtsp_text.specs.Slices.{held}
use Rattle.rtsp_credentials.proofs.Listed.{looked_up}
use Rattle.rtsp_credentials.proofs.digests.Digests.secret_of.Goals as goal

pub returns-in_err-secret : goal.returns-in_err-secret
returns-in_err-secret c =
    rw (← c.self.view_is) (ap held c.from_residual.ensures ∙ c.in_err-secret.ensures.value ∙ sym (looked_up c.args.name.now c.self.inside.secrets.entries))

pub returns : goal.returns
returns c = rw (← c.self.view_is) (ap (λ (t : List ℕ). Some t) c.as_bytes.ensures ∙ c.in_ok-secret.ensures.value ∙ sym (looked_up c.args.name.now c.self.inside.secrets.entries))
