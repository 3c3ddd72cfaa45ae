use Rattle.std.proofs.Common.{◌∙◌, ap, subst, Ok, Err}
use Rattle.rtsp_book.specs.declared.steps.Step.{Step}
use Rattle.rtsp_lock.specs.Calls.{seat_view, Acted}
use Rattle.rtsp_admit.specs.Runs.{state_of}
use Rattle.rtsp_lock.specs.Numbers.{admission_of}
use Rattle.rtsp_lock.proofs.Naming.{names_used, use_still}
use Rattle.rtsp_admit.proofs.admission.complete.Goals as goal

pub hold_rate-requires-clause-number : goal.hold_rate-requires-clause-number
hold_rate-requires-clause-number g c =
    use_still g.N.Numbers.drawn (seat_view c.args.seat.now) (seat_view c.open.new.seat) c.args.ask.now.admission c.open.ensures.drawn c.requires.number

pub address-requires-clause-number : goal.address-requires-clause-number
address-requires-clause-number g c =
    use_still g.N.Numbers.drawn (seat_view c.args.seat.now) (seat_view c.hold_rate.new.seat) c.args.ask.now.admission (c.hold_rate.ensures.drawn ∙ c.open.ensures.drawn) c.requires.number

pub act_into-requires-clause-names : goal.act_into-requires-clause-names
act_into-requires-clause-names g c =
    let v = seat_view c.address.new.seat in
    let drawn = c.address.ensures.drawn ∙ (c.hold_rate.ensures.drawn ∙ c.open.ensures.drawn) in
    names_used g.N.Numbers.drawn v c.commit_step.result c.args.ask.now.admission (ap admission_of c.commit_step.ensures)
    (use_still g.N.Numbers.drawn (seat_view c.args.seat.now) v c.args.ask.now.admission drawn c.requires.number)

pub returns-in-Ok-act_into-clause-ok : goal.returns-in-Ok-act_into-clause-ok
returns-in-Ok-act_into-clause-ok g c = record {
  rated = seat_view c.hold_rate.new.seat;
  rates = record { opened = seat_view c.open.new.seat; opens = c.in-Ok.ensures.ok; holds = c.in-Ok-hold_rate.ensures.ok };
  held = state_of c.address.new.seat c.address.new.binder;
  addresses = c.in-Ok-address.ensures.ok;
  made = c.act_into.new.made;
  commits = subst (λ (s : Step). Acted (seat_view c.address.new.seat) (seat_view c.act_into.new.self) s (Ok c.act_into.new.made)) c.commit_step.ensures c.in-Ok-act_into.ensures.acted;
  unbound = c.unbind_freed.ensures;
}

pub returns-in-Err-act_into-clause-err : goal.returns-in-Err-act_into-clause-err
returns-in-Err-act_into-clause-err g c = record {
  rated = seat_view c.hold_rate.new.seat;
  rates = record { opened = seat_view c.open.new.seat; opens = c.in-Ok.ensures.ok; holds = c.in-Ok-hold_rate.ensures.ok };
  held = seat_view c.address.new.seat;
  addresses = c.in-Ok-address.ensures.ok;
  refused = subst (λ (s : Step). Acted (seat_view c.address.new.seat) (seat_view c.act_into.new.self) s (Err c.in-Err-act_into.refusal)) c.commit_step.ensures c.in-Err-act_into.ensures.acted;
}
