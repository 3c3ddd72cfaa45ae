use Rattle.std.proofs.Common.{ap}
use Rattle.std.specs.Prelude.{Err}
use Rattle.rtsp_grammar.specs.Stream.{Feeding}
use Rattle.rtsp_engine.proofs.Going.{answered_next, fault_next}
use Rattle.rtsp_engine.proofs.Sizes.{taken, taken_item, takes_less}
use Rattle.rtsp_engine.proofs.connection.answer_items.Goals as goal

pub loop-item-smaller : goal.loop-item-smaller
loop-item-smaller g c =
    let item = c.in-Ok-Some.item in
    takes_less c.loop-item.feed.unread c.next.new.self item (taken_item c.loop-item.feed c.next.new.self c.in-Ok-Some.field-0 item c.in-Ok-Some.field-0-is c.loop-item.invariant.waits c.in-Ok-Some.ensures.takes)

pub loop-item-preserved : goal.loop-item-preserved
loop-item-preserved g c =
    let item = c.in-Ok-Some.item in
    let takes = taken_item c.loop-item.feed c.next.new.self c.in-Ok-Some.field-0 item c.in-Ok-Some.field-0-is c.loop-item.invariant.waits c.in-Ok-Some.ensures.takes in
    let puts = c.in-Ok.ensures.ok in
    record {
      waits = ap (λ (z : Feeding). z.fault) takes.2;
      done = answered_next g.A.Answerer.answers g.A.Answerer.gives_up _ puts.bytes c.loop-item.feed c.next.new.self item _ _ _ c.loop-item.invariant.done takes puts.is puts.text;
    }

pub returns-in-Err-clause-ends : goal.returns-in-Err-clause-ends
returns-in-Err-clause-ends g c =
    let fault = c.in-Err.fault in
    fault_next g.A.Answerer.answers g.A.Answerer.gives_up fault _ c.loop-item.feed c.next.new.self _ _ c.loop-item.invariant.done
    (taken c.loop-item.feed c.next.new.self (Err fault) c.loop-item.invariant.waits c.in-Err.ensures.takes)
