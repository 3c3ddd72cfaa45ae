use Rattle.std.proofs.Common.{[], ◌∷◌, ◌++◌, sym, ◌∙◌, ap, take, length, arith, length-append, append-nil}
use Rattle.std.specs.Prelude.{filter_map}
use Rattle.std.specs.List.{cons_option}
use Rattle.rtsp_book.specs.Receipts.{freed_as}
use Rattle.rtsp_book.proofs.Freed.{freed_next, no_value}
use Rattle.rtsp_book.proofs.receipts.freed_in.Goals as goal
use Rattle.rtsp_book.proofs.receipts.freed_in.Goals.{in-Some, in_default}

pub loop-change-preserved : goal.loop-change-preserved
loop-change-preserved c =
    let i = c.loop-change.change-index in
    let one = freed_as c.args.ports in
    let next = freed_next c.args.ports c.args.changes.now i c.change-item.result c.freed_as.result c.loop-change-test.true (c.freed_as.ensures ∙ ap one c.change-item.is) in
    let before = filter_map one (take i c.args.changes.now) in
    elim c.match-freed_as.branch [
      | in-Some w ↦
          let more = w.freed-is ∙ w.push.ensures in
          record {
            found = more ∙ ap (λ ps. ps ++ (w.in-Some.admission, w.in-Some.first_port) ∷ []) c.loop-change.invariant.found ∙ sym (next ∙ ap (λ o. before ++ cons_option o []) w.in-Some.is);
            few = omega (arith, ap length more, length-append c.loop-change.freed ((w.in-Some.admission, w.in-Some.first_port) ∷ []));
          }
      | in_default w ↦ record {
        found = w.freed-is ∙ c.loop-change.invariant.found ∙ sym (next ∙ ap (λ o. before ++ cons_option o []) (no_value c.freed_as.result w.in_default.not-Some) ∙ append-nil before);
        few = omega (arith, ap length w.freed-is);
      }
    ]
