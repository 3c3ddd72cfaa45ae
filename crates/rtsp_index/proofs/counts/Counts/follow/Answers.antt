use Rattle.std.proofs.Common.{ap, arith}
use Rattle.rtsp_record.specs.Sums.{one_if, newly_owed}
use Rattle.rtsp_record.proofs.Owing.{one_owed}
use Rattle.rtsp_sessions.specs.Plain.{is_open}
use Rattle.rtsp_index.proofs.CountLemmas.{living_after, living_small, owed_small}
use Rattle.rtsp_index.proofs.counts.Counts.follow.Goals as goal

pub overflow_add-self : goal.overflow_add-self
overflow_add-self c =
    let q = c.requires.follows in
    omega (arith, c.opens.ensures.small, q.holds.living, living_small q.whole q.book c.args.change.now q.follows q.small)

pub overflow_sub-self : goal.overflow_sub-self
overflow_sub-self c =
    let q = c.requires.follows in
    omega (arith, c.opens.ensures.value, c.opens-2.ensures.value, ap (λ r. one_if (is_open r)) c.inverse-back.ensures, q.holds.living, living_after q.whole q.book c.args.change.now q.follows)

pub overflow_add-self-2 : goal.overflow_add-self-2
overflow_add-self-2 c =
    let q = c.requires.follows in
    omega (arith, c.newly_owed.ensures.one, q.holds.owed, owed_small q.whole q.book c.args.change.now q.follows q.small)

pub overflow_sub-self-2 : goal.overflow_sub-self-2
overflow_sub-self-2 c =
    let q = c.requires.follows in
    omega (arith, c.newly_owed.ensures.value, c.newly_owed-2.ensures.value, ap newly_owed c.inverse-back.ensures, q.holds.owed, one_owed q.whole q.book c.args.change.now q.follows.allowed)

pub follow-requires-clause-follows : goal.follow-requires-clause-follows
follow-requires-clause-follows c =
    let q = c.requires.follows in
    record { whole = q.whole; small = q.small; book = q.book; follows = q.follows; holds = q.holds.bindings }

pub returns-clause-follows : goal.returns-clause-follows
returns-clause-follows c w b f ok =
    record {
      living = omega (arith, c.opens.ensures.value, c.opens-2.ensures.value, ap (λ r. one_if (is_open r)) c.inverse-back.ensures, ok.living, living_after w b c.args.change.now f);
      owed = omega (arith, c.newly_owed.ensures.value, c.newly_owed-2.ensures.value, ap newly_owed c.inverse-back.ensures, ok.owed, one_owed w b c.args.change.now f.allowed);
      bindings = c.follow.ensures.follows w b f ok.bindings;
    }
