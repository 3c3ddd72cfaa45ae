use Rattle.std.proofs.Common.{◌∙◌, ◌∷◌, subst, refl, ap, arith, Err}
use Rattle.rtsp_admit.specs.Runs.{state_of}
use Rattle.rtsp_book.specs.declared.refusals.Refusal.{Refusal}
use Rattle.rtsp_lock.specs.Calls.{seat_view, Acted}
use Rattle.rtsp_expiry.specs.Sweeps.{session_in}
use Rattle.rtsp_lock.proofs.Naming.{names_none}
use Rattle.rtsp_expiry.proofs.Finding.{only_nothing, names_no_number}
use Rattle.rtsp_expiry.proofs.sweeping.act_all.Goals as goal

pub act_into-requires-clause-names : goal.act_into-requires-clause-names
act_into-requires-clause-names g c = names_none g.N.Numbers.drawn _ c.args.step.now (names_no_number c.args.step.now c.requires.step)

pub loop-ended-preserved : goal.loop-ended-preserved
loop-ended-preserved g c =
    let was = c.loop-ended.invariant in
    let same = c.act_into.ensures.same in
    record {
      same = (same.0 ∙ was.same.0, same.1 ∙ was.same.1);
      made = c.act_into.new.made ∷ was.made;
      accepted = record {
        between = state_of c.loop-ended.seat c.loop-ended.binder;
        before = was.accepted;
        acted = c.in-Ok.ensures.acted;
        unbound = c.unbind_freed.ensures;
      };
      count = omega (arith, was.count);
      told = c.session_in-last.ensures ∙ ap session_in c.records.ensures.value;
    }

pub returns-in-Err-clause-run : goal.returns-in-Err-clause-run
returns-in-Err-clause-run g c =
    let was = c.loop-ended.invariant in
    let acted = c.in-Err.ensures.acted in
    let v = seat_view c.loop-ended.seat in
    let nothing = only_nothing v.whole acted.journal c.args.step.now c.in-Err.field-0 c.requires.step acted.answers in
    record {
      made = was.made;
      last = state_of c.loop-ended.seat c.loop-ended.binder;
      accepted = was.accepted;
      count = was.count;
      told = was.told;
      stops = record {
        below = c.loop-ended-test.true;
        refused = subst (λ (r : Refusal). Acted v (seat_view c.act_into.new.self) c.args.step.now (Err r)) nothing acted;
        binder = refl;
      };
    }

pub returns-clause-run : goal.returns-clause-run
returns-clause-run g c =
    let was = c.loop-ended.invariant in
    record {
      made = was.made;
      last = state_of c.loop-ended.seat c.loop-ended.binder;
      accepted = was.accepted;
      count = omega (arith, was.count, c.loop-ended-test.false, c.loop-ended.auto.ended-end);
      told = was.told;
      stops = (refl, refl);
    }
