use Rattle.std.proofs.Common.{arith}
use Rattle.std.proofs.lemmas.List.{length-drop}
use Rattle.rtsp_grammar.proofs.ItemLemmas.{frame_spelled}
use Rattle.rtsp_grammar.proofs.read.frame_front.Goals as goal

pub returns-in-Some-clause-front : goal.returns-in-Some-clause-front
returns-in-Some-clause-front c =
    let some = rw c.in-Some.is at c.in_ok-frame.ensures.some in
    let le = rw c.split_at.ensures.back at (rw c.in-Some.is at c.in_ok-frame.ensures.length) in (
      omega (arith, le, length-drop c.args.blank c.args.bytes.now, c.requires.front.within),
      frame_spelled c.args.bytes.now c.args.blank c.in-Some.len c.in-Some.frame c.requires.front c.requires.few some.0 (rw c.split_at.ensures.back at some.1) le,
    )
