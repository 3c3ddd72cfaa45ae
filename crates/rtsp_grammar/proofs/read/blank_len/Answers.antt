use Rattle.std.proofs.Common.{arith}
use Rattle.rtsp_grammar.proofs.BlankLemmas.{one_blank_more}
use Rattle.rtsp_grammar.proofs.read.blank_len.Goals as goal

pub blank-preserved : goal.blank-preserved
blank-preserved c = one_blank_more c.args.bytes.now c.blank.at c.blank.invariant (omega arith) c.if-bytes-at-eq13.true c.if-bytes-at-eq10.true
