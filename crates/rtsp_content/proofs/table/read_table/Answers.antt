use Rattle.std.proofs.Common.{arith}
use Rattle.rtsp_content.proofs.table.read_table.Goals as goal

pub invariant_of-result : goal.invariant_of-result
invariant_of-result c = record {
  server = c.in_ok-server.ensures.limits;
  presentations_least = omega (arith, c.in_ok-items.ensures.count.0, c.in_ok-presentations.ensures.count);
  presentations_most = omega (arith, c.in_ok-items.ensures.count.1, c.in_ok-presentations.ensures.count);
  presentations_distinct = λ i j name at_i at_j on_i on_j. c.in_ok-presentations.ensures.distinct i j name at_i at_j;
}
