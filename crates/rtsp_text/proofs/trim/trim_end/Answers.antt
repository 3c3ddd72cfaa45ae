use Rattle.std.proofs.Common.{rules, arith}
use Rattle.rtsp_text.proofs.TrimLemmas.{trim_end_at}
use Rattle.rtsp_text.proofs.trim.trim_end.Goals as goal
use Rattle.rtsp_text.proofs.trim.trim_end.Goals.{then-back-test+else-is_blank, else-back-test}

pub returns : goal.returns
returns c = trim_end_at c.args.text.now c.back.end c.back.invariant.0 c.back.invariant.1
    (λ lt. elim c.back-test.branch [ then-back-test+else-is_blank w ↦ search rules | else-back-test w ↦ absurd (omega arith) ])
