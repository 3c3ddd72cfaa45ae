use Rattle.std.proofs.Common.{◌∙◌, ap}
use Rattle.hex.specs.Hex.{encode_lower}
use Rattle.rtsp_text.proofs.HexLemmas.{u32_hex}
use Rattle.rtsp_text.proofs.hexadecimal.hex_digits_u32.Goals as goal

pub returns : goal.returns
returns c =
    let written = rw c.unwrap.ensures at c.encode_to_slice-encoded.ensures.written in
    written ∙ ap encode_lower c.to_be_bytes.ensures ∙ u32_hex c.args.number
