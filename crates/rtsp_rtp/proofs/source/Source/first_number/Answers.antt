use Rattle.std.proofs.Common.{◌∙◌, ap, ℕ, ◌+◌, ◌*◌, ◌%◌, ◌^◌}
use Rattle.std.proofs.lemmas.Nat.{mul-mod_first}
use Rattle.std.proofs.Math.Nat.{add-mod-mod}
use Rattle.rtsp_rtp.proofs.source.Source.first_number.Goals as goal

pub returns : goal.returns
returns c =
    let seq = c.args.self.now.seq in
    ap (λ (w : ℕ). (seq + w) % 2 ^ 16) (mul-mod_first c.args.sent c.packet_count.result (2 ^ 16)) ∙ add-mod-mod seq (c.args.sent * c.packet_count.result) (2 ^ 16) ∙ ap (λ (m : ℕ). (seq + c.args.sent * m) % 2 ^ 16) c.packet_count.ensures
