use Rattle.std.proofs.Common.{ℕ, List, take, length, ap, ◌∙◌}
use Rattle.url.specs.Parts.{serialize}
use Rattle.rtsp_state.specs.Values.{with_slash}
use Rattle.rtsp_state.proofs.BareLemmas.{bare_front}
use Rattle.rtsp_state.proofs.media_base.MediaBase.new.Goals as goal

pub returns : goal.returns
returns c =
    let len = length c.slice-len.result.now in
    let kept = ap (λ v. take len v.items) c.into_bytes-bytes.ensures.value ∙ ap (take len) c.from.ensures in
    let front = ap (λ (text : List ℕ). take (length text) (serialize c.args.url)) c.slice-len.ensures.value ∙ bare_front c.args.url in
    ap with_slash (c.truncate.ensures.items ∙ (kept ∙ front))
