use Rattle.std.proofs.Common.{◌≡◌, ap, sym, subst, ◌∙◌, Option}
use Rattle.std.specs.Prelude.{IfOk}
use Rattle.url.specs.Parts.{Parts}
use Rattle.rtsp_state.specs.Values.{rtsp_url}
use Rattle.rtsp_state.proofs.ReadLemmas.{uri_some, uri_none}
use Rattle.rtsp_state.proofs.uri.read_uri.Goals as goal

pub returns-in-Ok : goal.returns-in-Ok
returns-in-Ok c =
    let h = c.in-Ok.ensures.cases in
    subst (λ (u : Option Parts). IfOk c.read_url.result (λ url. url ≡ u)) (ap rtsp_url h.0 ∙ sym (uri_some c.args.text.now h.1)) c.read_url.ensures

pub returns-in-Err : goal.returns-in-Err
returns-in-Err c = sym (uri_none c.args.text.now c.in-Err.ensures.cases.0)
