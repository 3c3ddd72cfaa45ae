use Rattle.std.proofs.Common.{◌∙◌, sym}
use Rattle.rtsp_text.specs.Slices.{held}
use Rattle.rtsp_credentials.proofs.Fronts.{front_is}
use Rattle.rtsp_credentials.proofs.plain_front.plain_front.Goals as goal

pub returns : goal.returns
returns c =
    front_is c.args.text.now c.in_ok-field.field c.in_ok-field.written.now c.in_ok-value.value.now (held c.in_ok-value.left)
    (sym c.trim_start.ensures ∙ c.in_ok-field.ensures) c.in_ok-value.ensures
