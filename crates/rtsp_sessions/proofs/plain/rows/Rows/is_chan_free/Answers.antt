use Rattle.std.proofs.Common.{◌+◌, ap, ◌∙◌}
use Rattle.rtsp_record.specs.Sums.{Channel}
use Rattle.rtsp_record.specs.Choices.{is_free}
use Rattle.rtsp_sessions.proofs.FreeLemmas.{both_tests}
use Rattle.rtsp_sessions.proofs.plain.rows.Rows.is_chan_free.Goals as goal

pub returns-then-is_channel_free : goal.returns-then-is_channel_free
returns-then-is_channel_free c =
    let b = c.args.self.now in
    let at = c.from-channel.ensures in
    both_tests (is_free b (Channel c.args.conn c.args.first)) (is_free b (Channel c.args.conn (c.args.first + 1))) c.is_channel_free.result _
    (c.is_channel_free.ensures ∙ ap (λ k. is_free b (Channel c.args.conn k)) at)
    c.if-is_channel_free.true
    (c.is_channel_free-then-is_channel_free.ensures ∙ ap (λ k. is_free b (Channel c.args.conn (k + 1))) at)
