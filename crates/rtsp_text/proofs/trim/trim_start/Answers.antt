use Rattle.std.proofs.Common.{rules}
use Rattle.rtsp_text.proofs.TrimLemmas.{trim_start_at, trim_start_all}
use Rattle.rtsp_text.proofs.trim.trim_start.Goals as goal

pub returns-then-not-is_blank : goal.returns-then-not-is_blank
returns-then-not-is_blank c = trim_start_at c.args.text.now c.loop-i.i c.loop-i-test.true c.loop-i.invariant (search rules)

pub returns : goal.returns
returns c = trim_start_all c.args.text.now c.loop-i.i c.loop-i-test.false c.loop-i.invariant
