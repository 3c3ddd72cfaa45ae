use Rattle.std.proofs.Common.{arith, false, get_or}
use Rattle.std.proofs.lemmas.Bool.{ne_eqb}
use Rattle.rtsp_transport.proofs.SplitLemmas.{onto_nothing, on_quote, on_plain, separates, in_quotes, no_separator}
use Rattle.rtsp_transport.proofs.Cutting.{cut_here, cut_nowhere}
use Rattle.rtsp_transport.proofs.split.first_quoted_part.Goals as goal
use Rattle.rtsp_transport.proofs.split.first_quoted_part.Goals.{then-b-eq-QUOTE, else-b-eq-QUOTE+else-b-separator, else-b-separator-via-then-b-separator+else-not-inside, else-b-separator-via-else-b-separator}

pub loop-i-init : goal.loop-i-init
loop-i-init c = onto_nothing false c.args.separator c.args.text.now

pub returns-then-not-inside-clause-parts : goal.returns-then-not-inside-clause-parts
returns-then-not-inside-clause-parts c =
    cut_here c.args.text.now c.loop-i.i c.loop-i.inside c.args.separator c.loop-i-test.true (ne_eqb (get_or c.args.text.now c.loop-i.i 0) 34 c.if-b-eq-QUOTE.false)
    (separates (get_or c.args.text.now c.loop-i.i 0) c.args.separator c.loop-i.inside c.if-b-separator.true c.if-not-inside.true) c.loop-i.invariant

pub loop-i-preserved : goal.loop-i-preserved
loop-i-preserved c =
    elim c.if-b-eq-QUOTE.branch [
      | then-b-eq-QUOTE w ↦ on_quote c.args.text.now c.loop-i.i c.loop-i.inside c.if-b-eq-QUOTE.inside c.args.separator c.loop-i-test.true w.if-b-eq-QUOTE.true w.inside-is c.loop-i.invariant
      | else-b-eq-QUOTE+else-b-separator w ↦
          rw w.inside-is (on_plain c.args.text.now c.loop-i.i c.loop-i.inside c.args.separator c.loop-i-test.true (ne_eqb (get_or c.args.text.now c.loop-i.i 0) 34 w.if-b-eq-QUOTE.false)
          (elim w.else-b-separator.branch [
            | else-b-separator-via-then-b-separator+else-not-inside w' ↦ in_quotes (get_or c.args.text.now c.loop-i.i 0) c.args.separator c.loop-i.inside w'.if-not-inside.false
            | else-b-separator-via-else-b-separator w' ↦ no_separator (get_or c.args.text.now c.loop-i.i 0) c.args.separator c.loop-i.inside w'.if-b-separator.false
          ])
          c.loop-i.invariant)
    ]

pub returns-clause-parts : goal.returns-clause-parts
returns-clause-parts c = cut_nowhere c.args.text.now c.loop-i.i c.loop-i.inside c.args.separator (omega arith) c.loop-i.invariant
