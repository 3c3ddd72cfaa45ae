use Rattle.std.proofs.Common.{◌≡◌, ℕ, List, [], ◌∷◌, ◌++◌, ◌∙◌, ap}
use Rattle.std.specs.Prelude.{codes}
use Rattle.std.proofs.lemmas.Result.{on_ok_weaker}
use Rattle.rtsp_state.specs.Notify.{request_status_text}
use Rattle.rtsp_state.proofs.end_of_stream.push_request_status.Goals as goal

pub returns : goal.returns
returns c =
    let empty : c.reserve.new.self.text ≡ [] = c.reserve.ensures.text ∙ c.clear.ensures.text in
    let value : c.as_bytes.result.now ≡ request_status_text c.args.cseq = c.as_bytes.ensures ∙ c.put_request_status.ensures ∙ ap (λ (t : List ℕ). t ++ request_status_text c.args.cseq) empty in
    on_ok_weaker c.push.result (λ taken. taken.0 ∙ ap (λ (v : List ℕ). c.args.headers.now.headers ++ record { name = codes "Request-Status"; value = v } ∷ []) value) c.push.ensures.ok
