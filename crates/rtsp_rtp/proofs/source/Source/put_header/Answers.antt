use Rattle.std.proofs.Common.{◌∷◌, [], ◌++◌, ◌∙◌, ap, ℕ, List, take, drop, slice_index_or, arith}
use Rattle.rtsp_rtp.proofs.Counting.{bytes_of}
use Rattle.rtsp_rtp.proofs.Placing.{written_is}
use Rattle.rtsp_rtp.proofs.source.Source.put_header.Goals as goal

pub returns : goal.returns
returns c =
    let x = c.args.self.now in
    let b = c.args.buffer.now in
    let q = c.to_be_bytes.result in
    let t = c.to_be_bytes-2.result in
    let r = c.to_be_bytes-3.result in
    let bytes : List ℕ =
    128 ∷ x.payload_type ∷ slice_index_or q 0 0 ∷ slice_index_or q 1 0 ∷ slice_index_or t 0 0 ∷ slice_index_or t 1 0 ∷ slice_index_or t 2 0 ∷ slice_index_or t 3 0 ∷ slice_index_or r 0 0 ∷ slice_index_or r 1 0 ∷ slice_index_or r 2 0 ∷ slice_index_or r 3 0 ∷ []
    in
    written_is bytes b 4 (omega (arith, c.told-buffer))
    ∙ ap (λ (l : List ℕ). take 4 b ++ (l ++ drop 16 b)) (bytes_of x c.args.sent q t r c.to_be_bytes.ensures c.to_be_bytes-2.ensures c.to_be_bytes-3.ensures)
