use Rattle.std.proofs.Common.{arith, ◌+◌}
use Rattle.std.proofs.lemmas.Result.{err_from_is_err_and}
use Rattle.std.proofs.lemmas.List.{length-drop}
use Rattle.rtsp_grammar.proofs.FeedLemmas.{body_short}
use Rattle.rtsp_grammar.proofs.ItemLemmas.{head_found, broken_rules, partial, partial_body, body_found}
use Rattle.rtsp_grammar.proofs.read.message_front.Goals as goal

pub overflow_add-blank : goal.overflow_add-blank
overflow_add-blank c =
    let h = head_found c.args.bytes.now c.args.message.now c.args.blank c.in-Ended.ensures.lines c.in-Ended.len c.requires.front c.requires.message c.requires.no_frame c.in-Ended.ensures.is in
    let len = h.1 in
    omega arith

pub split_at-requires : goal.split_at-requires
split_at-requires c = (head_found c.args.bytes.now c.args.message.now c.args.blank c.in-Ended.ensures.lines c.in-Ended.len c.requires.front c.requires.message c.requires.no_frame c.in-Ended.ensures.is).1

pub returns-in_err-head-in-Ended-clause-fault : goal.returns-in_err-head-in-Ended-clause-fault
returns-in_err-head-in-Ended-clause-fault c =
    let p = err_from_is_err_and c.from_residual.result c.from_residual.ensures.1 in
    rw (p.1, p.2) (broken_rules c.args.bytes.now c.args.message.now c.args.blank c.in-Ended.ensures.lines c.in-Ended.len c.in_err-head-in-Ended.field-0.0 c.requires.front c.requires.message c.requires.no_frame c.in-Ended.ensures.is (c.in_err-head-in-Ended.ensures.reads c.in-Ended.ensures.lines c.in-Ended.ensures.holds))

pub returns-then-rest-announced-clause-front : goal.returns-then-rest-announced-clause-front
returns-then-rest-announced-clause-front c =
    let reads = c.in_ok-head-in-Ended.ensures.reads c.in-Ended.ensures.lines c.in-Ended.ensures.holds in (
      partial_body c.args.bytes.now c.args.message.now c.args.blank c.in-Ended.ensures.lines c.in-Ended.len _ c.in_ok-head-in-Ended.announced c.requires.front c.requires.message c.requires.no_frame c.in-Ended.ensures.is reads (rw c.split_at.ensures.back at c.if-rest-announced.true),
      body_short c.args.bytes.now c.args.message.now c.args.blank c.in-Ended.ensures.lines c.in-Ended.len _ c.in_ok-head-in-Ended.announced c.requires.front c.requires.message c.requires.no_frame c.in-Ended.ensures.is reads,
    )

pub returns-else-bytes-ge-HEAD_LIMIT-clause-front : goal.returns-else-bytes-ge-HEAD_LIMIT-clause-front
returns-else-bytes-ge-HEAD_LIMIT-clause-front c = partial c.args.bytes.now c.args.message.now c.args.blank c.requires.front c.requires.message c.requires.no_frame c.in-Open.ensures c.if-bytes-ge-HEAD_LIMIT.false

pub returns-in_ok-body-in-Ended-clause-front : goal.returns-in_ok-body-in-Ended-clause-front
returns-in_ok-body-in-Ended-clause-front c =
    let reads = c.in_ok-head-in-Ended.ensures.reads c.in-Ended.ensures.lines c.in-Ended.ensures.holds in
    let le = rw c.split_at.ensures.back at c.if-rest-announced.false in
    let within = (head_found c.args.bytes.now c.args.message.now c.args.blank c.in-Ended.ensures.lines c.in-Ended.len c.requires.front c.requires.message c.requires.no_frame c.in-Ended.ensures.is).1 in (
      omega (arith, le, within, length-drop (c.args.blank + c.in-Ended.len) c.args.bytes.now),
      rw c.with_body.ensures (body_found c.args.bytes.now c.args.message.now c.args.blank c.in-Ended.ensures.lines c.in-Ended.len c.in_ok-head-in-Ended.head c.in_ok-body-in-Ended.body c.in_ok-head-in-Ended.announced c.requires.front c.requires.message c.requires.no_frame c.in-Ended.ensures.is
          reads le (rw c.split_at.ensures.back at c.in_ok-body-in-Ended.ensures)),
    )
