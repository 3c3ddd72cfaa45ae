use Rattle.std.proofs.Common.{◌∙◌, ap}
use Rattle.hex.specs.Hex.{encode_lower}
use Rattle.rtsp_text.proofs.HexLemmas.{u128_hex}
use Rattle.rtsp_credentials.proofs.gate.nonce_of.Goals as goal

pub returns : goal.returns
returns c =
    let written = rw c.unwrap.ensures at c.encode_to_slice-encoded.ensures.written in
    written ∙ ap encode_lower c.to_be_bytes.ensures ∙ u128_hex c.args.number
