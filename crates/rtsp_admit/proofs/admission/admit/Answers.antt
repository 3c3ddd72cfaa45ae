use Rattle.std.proofs.Common.{Ok, Err}
use Rattle.rtsp_admit.specs.Runs.{state_of}
use Rattle.rtsp_admit.proofs.admission.admit.Goals as goal

pub returns-in-Ok-clause-bound : goal.returns-in-Ok-clause-bound
returns-in-Ok-clause-bound g c =
    c.law_admitted_address.ensures c.in-Ok.granted (state_of c.args.seat.now c.args.binder.now) (state_of c.admit_into.new.seat c.admit_into.new.binder) c.in-Ok.ensures.run

pub returns-in-Ok-clause-drawn : goal.returns-in-Ok-clause-drawn
returns-in-Ok-clause-drawn g c =
    c.law_admitted_keeps_drawn.ensures (Ok c.in-Ok.granted) (state_of c.args.seat.now c.args.binder.now) (state_of c.admit_into.new.seat c.admit_into.new.binder) c.in-Ok.ensures.run

pub returns-in-Err-clause-released : goal.returns-in-Err-clause-released
returns-in-Err-clause-released g c =
    c.law_refused_addresses.ensures c.in-Err.refusal (state_of c.args.seat.now c.args.binder.now) (state_of c.admit_into.new.seat c.admit_into.new.binder) c.in-Err.ensures.run

pub returns-in-Err-clause-drawn : goal.returns-in-Err-clause-drawn
returns-in-Err-clause-drawn g c =
    c.law_admitted_keeps_drawn.ensures (Err c.in-Err.refusal) (state_of c.args.seat.now c.args.binder.now) (state_of c.admit_into.new.seat c.admit_into.new.binder) c.in-Err.ensures.run

pub returns-in-Ok-clause-owns : goal.returns-in-Ok-clause-owns
returns-in-Ok-clause-owns g c =
    c.law_admitted_keeps_all.ensures (Ok c.in-Ok.granted) (state_of c.args.seat.now c.args.binder.now) (state_of c.admit_into.new.seat c.admit_into.new.binder) c.in-Ok.ensures.run

pub returns-in-Err-clause-owns : goal.returns-in-Err-clause-owns
returns-in-Err-clause-owns g c =
    c.law_admitted_keeps_all.ensures (Err c.in-Err.refusal) (state_of c.args.seat.now c.args.binder.now) (state_of c.admit_into.new.seat c.admit_into.new.binder) c.in-Err.ensures.run

pub returns-in-Err-clause-clean : goal.returns-in-Err-clause-clean
returns-in-Err-clause-clean g c =
    c.law_refused_drawn.ensures c.in-Err.refusal (state_of c.args.seat.now c.args.binder.now) (state_of c.admit_into.new.seat c.admit_into.new.binder) c.in-Err.ensures.run
