use Rattle.std.proofs.Common.{◌∙◌, ap, subst, Ok}
use Rattle.rtsp_book.specs.declared.steps.Step.{Step}
use Rattle.rtsp_lock.specs.Calls.{seat_view, Acted}
use Rattle.rtsp_admit.specs.Steps.{first_port_in}
use Rattle.rtsp_admit.proofs.Choosing.{ports_held, some_held}
use Rattle.rtsp_lock.specs.Numbers.{admission_of}
use Rattle.rtsp_lock.proofs.Naming.{names_used}
use Rattle.rtsp_admit.proofs.Keeping.{names_ports}
use Rattle.rtsp_admit.proofs.ports.hold_ports.Goals as goal

pub act_into-requires-clause-names : goal.act_into-requires-clause-names
act_into-requires-clause-names g c =
    names_used g.N.Numbers.drawn (seat_view c.args.seat.now) c.hold_step.result c.args.ask.now.admission (ap admission_of c.hold_step.ensures ∙ names_ports c.args.ask.now c.args.kind c.args.from) c.requires.number

pub unreachable-requires : goal.unreachable-requires
unreachable-requires g c =
    let v = seat_view c.args.seat.now in
    let u = seat_view c.act_into.new.self in
    let acted = subst (λ (s : Step). Acted v u s (Ok c.act_into.new.made)) c.hold_step.ensures c.in-Ok.ensures.acted in
    some_held c.args.ask.now c.args.kind c.args.from v u c.act_into.new.made acted (c.in-None.ensures ∙ ap first_port_in c.records.ensures.value)

pub returns-in-Some-clause-ok : goal.returns-in-Some-clause-ok
returns-in-Some-clause-ok g c =
    let v = seat_view c.args.seat.now in
    let u = seat_view c.act_into.new.self in
    let acted = subst (λ (s : Step). Acted v u s (Ok c.act_into.new.made)) c.hold_step.ensures c.in-Ok.ensures.acted in
    ports_held c.args.ask.now c.args.kind c.args.from c.in-Some.first v u c.act_into.new.made acted (c.in-Some.ensures ∙ ap first_port_in c.records.ensures.value)
