use Rattle.std.proofs.Common.{◌∙◌, sym, ap}
use Rattle.rtsp_credentials.specs.ParameterView.{shown}
use Rattle.rtsp_credentials.proofs.Putting.{put_by, put_found}
use Rattle.rtsp_credentials.proofs.parameters.Parameters.put.Goals as goal

pub returns-in-Some : goal.returns-in-Some
returns-in-Some c =
    let ps = shown c.args.self.now in
    c.fill.ensures ∙ sym (put_by ps c.args.name.now c.args.value.now ∙ ap (put_found ps c.args.value.now) (sym c.named.ensures ∙ c.in-Some.is))

pub returns-in-None : goal.returns-in-None
returns-in-None c =
    let ps = shown c.args.self.now in
    sym (put_by ps c.args.name.now c.args.value.now ∙ ap (put_found ps c.args.value.now) (sym c.named.ensures ∙ c.in-None.is))
