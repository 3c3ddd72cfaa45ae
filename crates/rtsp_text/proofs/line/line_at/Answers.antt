use Rattle.std.proofs.Common.{arith}
use Rattle.rtsp_text.proofs.LineLemmas.{broken_feed, broken_return, open_at_end, open_at_return}
use Rattle.rtsp_text.proofs.line.line_at.Goals as goal

pub returns-then-bytes-end-eq-LF : goal.returns-then-bytes-end-eq-LF
returns-then-bytes-end-eq-LF c = broken_feed _ _ c.plain_len-end.ensures (omega arith) c.if-bytes-end-eq-LF.true

pub returns-then-bytes-end-ne-LF : goal.returns-then-bytes-end-ne-LF
returns-then-bytes-end-ne-LF c = broken_return _ _ c.plain_len-end.ensures (omega arith) c.if-bytes-end-eq-LF.false c.if-bytes-end-ne-LF.true

pub returns-then-end-bytes : goal.returns-then-end-bytes
returns-then-end-bytes c = open_at_end _ _ c.plain_len-end.ensures (omega (arith, c.if-end-bytes.true))

pub returns-then-end-bytes-2 : goal.returns-then-end-bytes-2
returns-then-end-bytes-2 c = open_at_return _ _ c.plain_len-end.ensures (omega arith) c.if-bytes-end-eq-LF.false (omega (arith, c.if-end-bytes-2.true))
