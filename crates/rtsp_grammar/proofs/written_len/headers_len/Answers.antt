use Rattle.std.proofs.Common.{arith, ◌-◌, ◌^◌}
use Rattle.rtsp_grammar.proofs.TextLens.{step_len, done_len}
use Rattle.rtsp_grammar.proofs.written_len.headers_len.Goals as goal

pub loop-index-preserved : goal.loop-index-preserved
loop-index-preserved c = (omega (arith, c.saturating_add-total.ensures), step_len (2 ^ 64 - 1) c.args.headers.now c.loop-index.index _ c.loop-index.total c.header_len.result c.saturating_add-total.result _ c.get.ensures c.header_len.ensures c.saturating_add-total.ensures c.loop-index.invariant.1)

pub returns : goal.returns
returns c = done_len (2 ^ 64 - 1) c.args.headers.now c.loop-index.index c.loop-index.total _ (omega (arith, c.loop-index-test.false, c.len-index-end.ensures)) c.loop-index.invariant.0 c.loop-index.invariant.1
