use Rattle.std.proofs.Common.{◌≡◌, Some, None, arith, sym, ◌∙◌}
use Rattle.rtsp_record.specs.Choices.{is_pair_free, least_pair}
use Rattle.rtsp_journal_text.proofs.Counting.{count_few, pairs_begin, pairs_next, pairs_end, pair_from}
use Rattle.rtsp_journal_text.proofs.book.free_pairs.Goals as goal

pub loop-port-init : goal.loop-port-init
loop-port-init g c =
    record { counted = omega (arith, pairs_begin (is_pair_free (g.B.BookRep.contents c.args.book.now)) (g.B.BookRep.whole_of c.args.book.now)); within = omega arith }

pub overflow_add-free : goal.overflow_add-free
overflow_add-free g c =
    let w = g.B.BookRep.whole_of c.args.book.now in
    let b = g.B.BookRep.contents c.args.book.now in
    let there : least_pair w b c.loop-port.from ≡ Some c.in-Some.port = sym c.least_pair.ensures ∙ c.in-Some.is in
    omega (arith, c.loop-port.invariant.counted, pairs_next (is_pair_free b) w c.loop-port.from c.in-Some.port there, count_few 2 (is_pair_free b) w.first_port w.pairs, c.requires)

pub loop-port-smaller : goal.loop-port-smaller
loop-port-smaller g c =
    let w = g.B.BookRep.whole_of c.args.book.now in
    let b = g.B.BookRep.contents c.args.book.now in
    let there : least_pair w b c.loop-port.from ≡ Some c.in-Some.port = sym c.least_pair.ensures ∙ c.in-Some.is in
    let found = pair_from (is_pair_free b) w c.loop-port.from c.in-Some.port there in
    omega (arith, found.low, found.high, c.from-from.ensures, c.requires)

pub loop-port-preserved : goal.loop-port-preserved
loop-port-preserved g c =
    let w = g.B.BookRep.whole_of c.args.book.now in
    let b = g.B.BookRep.contents c.args.book.now in
    let there : least_pair w b c.loop-port.from ≡ Some c.in-Some.port = sym c.least_pair.ensures ∙ c.in-Some.is in
    let found = pair_from (is_pair_free b) w c.loop-port.from c.in-Some.port there in
    rw c.from-from.ensures
    (record { counted = omega (arith, c.loop-port.invariant.counted, pairs_next (is_pair_free b) w c.loop-port.from c.in-Some.port there); within = omega (arith, found.high, c.requires) })

pub returns : goal.returns
returns g c =
    let w = g.B.BookRep.whole_of c.args.book.now in
    let b = g.B.BookRep.contents c.args.book.now in
    let none : least_pair w b c.loop-port.from ≡ None = sym c.least_pair.ensures ∙ c.in_default.is in
    omega (arith, c.loop-port.invariant.counted, pairs_end (is_pair_free b) w c.loop-port.from none)
