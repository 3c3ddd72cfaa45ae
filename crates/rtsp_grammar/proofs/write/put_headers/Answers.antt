use Rattle.std.proofs.Common.{arith, ◌≡◌, true, false}
use Rattle.std.proofs.lemmas.List.{length-append}
use Rattle.rtsp_grammar.specs.Writing.{headers_text}
use Rattle.rtsp_grammar.proofs.PlaceLemmas.{text_step, text_fits, text_end}
use Rattle.rtsp_grammar.proofs.write.put_headers.Goals as goal

pub returns-in_err-put_header-clause-succeeds : goal.returns-in_err-put_header-clause-succeeds
returns-in_err-put_header-clause-succeeds c = λ room.
    let l = length-append c.args.out.now.items (headers_text c.args.headers.now) in
    let f = text_fits c.loop-index.out.items _ c.args.headers.now c.loop-index.index _ c.get.ensures c.loop-index.invariant.0 in
    let bad : false ≡ true = c.in_err-put_header.ensures.succeeds (omega (arith, room, l, f, c.loop-index.invariant.1)) in
    absurd cc

pub loop-index-preserved : goal.loop-index-preserved
loop-index-preserved c = (
  text_step c.loop-index.out.items c.put_header.new.out.items _ c.args.headers.now c.loop-index.index _ c.get.ensures c.in_ok-put_header.ensures.text c.loop-index.invariant.0,
  omega (arith, c.loop-index.invariant.1, c.put_header.ensures.capacity),
)

pub returns-clause-text : goal.returns-clause-text
returns-clause-text c = text_end c.loop-index.out.items _ c.args.headers.now c.loop-index.index (omega (arith, c.loop-index-test.false, c.len-index-end.ensures)) c.loop-index.invariant.0
