use Rattle.std.proofs.Common.{ℕ, List, length, Option, Some, None, unwrap_or, refl, arith, le_refl}
use Rattle.memchr.specs.Find.{IsFirstByte, is_byte2}
use Rattle.rtsp_text.proofs.SearchLemmas.{none_before}
use Rattle.rtsp_text.specs.Bytes.{is_line_byte}
use Rattle.rtsp_text.specs.Span.{IsSpan}
use Rattle.rtsp_text.proofs.line.plain_len.Goals as goal

span_of : (text : List ℕ) (first : Option ℕ) → IsFirstByte (is_byte2 13 10) text first → IsSpan is_line_byte text (unwrap_or first (length text))
span_of text None none = record {
  within = le_refl (length text);
  passes = none_before (is_byte2 13 10) text (length text) (le_refl (length text)) none;
  stops = λ lt. absurd (omega arith);
}
span_of text (Some end) found = record {
  within = omega (arith, found.0.high);
  passes = none_before (is_byte2 13 10) text end (omega (arith, found.0.high)) found.0.before;
  stops = λ lt. rw found.1 refl;
}

pub returns : goal.returns
returns c = rw c.unwrap_or.ensures (span_of c.args.bytes.now c.memchr2.result c.memchr2.ensures)
