use Rattle.std.proofs.Common.{arith, sym}
use Rattle.rtsp_grammar.proofs.LinesLemmas.{rest_within}
use Rattle.rtsp_grammar.proofs.ScanLemmas.{place_open, reached_open, reached_next}
use Rattle.rtsp_grammar.proofs.scan.scan.Goals as goal

pub returns-in-Open-clause-place : goal.returns-in-Open-clause-place
returns-in-Open-clause-place c =
    rw c.after_part.ensures (place_open c.args.bytes.now c.lines.reached c.lines.left.now c.in-Open.line.now c.is_empty.result c.lines.invariant.0 c.if-is_frame.ensures c.in-Open.ensures c.lines.invariant.1 c.is_empty.ensures)

pub returns-in-Open-clause-open : goal.returns-in-Open-clause-open
returns-in-Open-clause-open c = reached_open c.args.bytes.now c.lines.reached c.lines.left.now c.lines.invariant.0 c.in-Open.ensures.0 c.if-is_frame.ensures

pub lines-preserved : goal.lines-preserved
lines-preserved c = (
  reached_next c.args.bytes.now c.lines.reached c.in-Some.next c.lines.left.now c.in-Ended.line.now c.in-Ended.rest.now c.is_empty-in-Ended.result c.lines.invariant.0 c.if-is_frame.ensures c.in-Ended.ensures c.is_empty-in-Ended.ensures (sym c.in-Some.ensures),
  omega (arith, c.lines.invariant.1, rest_within c.lines.left.now c.in-Ended.line.now c.in-Ended.rest.now c.in-Ended.ensures),
)
