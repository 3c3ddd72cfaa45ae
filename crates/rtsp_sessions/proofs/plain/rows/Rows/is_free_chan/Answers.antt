use Rattle.rtsp_sessions.proofs.FreeLemmas.{free_chan}
use Rattle.rtsp_sessions.proofs.plain.rows.Rows.is_free_chan.Goals as goal

pub returns-then-has_chan : goal.returns-then-has_chan
returns-then-has_chan c =
    free_chan c.args.whole.now c.args.self.now c.args.conn c.args.first _ (c.has_chan.ensures.0 c.if-has_chan.true) c.is_chan_free.ensures
