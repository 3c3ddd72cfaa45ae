use Rattle.std.proofs.Common.{sym, length, get_or, arith, le_refl}
use Rattle.std.proofs.lemmas.Bool.{eqb-true}
use Rattle.memchr.specs.Find.{is_byte}
use Rattle.rtsp_text.proofs.SearchLemmas.{none_before}
use Rattle.rtsp_text.proofs.SplitLemmas.{split_at_index, split_nowhere}
use Rattle.rtsp_text.proofs.split.split_once.Goals as goal

pub returns-in_err-at : goal.returns-in_err-at
returns-in_err-at c =
    let text = c.args.text.now in
    let before = none_before (is_byte c.args.byte) text (length text) (le_refl (length text)) c.in_err-at.ensures in
    rw c.from_residual.ensures (sym (split_nowhere c.args.byte text (length text) (le_refl (length text)) before))

pub returns : goal.returns
returns c =
    let text = c.args.text.now in
    let at = c.in_ok-at.at in
    let first = c.in_ok-at.ensures.0 in
    let before = none_before (is_byte c.args.byte) text at (omega (arith, first.high)) first.before in
    sym (split_at_index c.args.byte text at first.high before (eqb-true (get_or text at 0) c.args.byte c.in_ok-at.ensures.1))
