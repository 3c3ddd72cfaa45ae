use Rattle.std.proofs.Common.{ℕ, ◌∙◌, sym, ap, subst}
use Rattle.rtsp_book.specs.declared.asks.Ask.{Ask}
use Rattle.rtsp_lock.specs.Calls.{seat_view}
use Rattle.rtsp_lock.specs.Entries.{Has}
use Rattle.rtsp_lock.proofs.Naming.{drawn_used}
use Rattle.rtsp_state.specs.SetupPlan.{ask_of}
use Rattle.rtsp_engine.proofs.Numbering.{draws_number}
use Rattle.rtsp_engine.proofs.conducting.admit_drawn.Goals as goal

pub admit_into-requires-clause-number : goal.admit_into-requires-clause-number
admit_into-requires-clause-number g c =
    let u = seat_view c.draw_numbers.new.seat in
    let ask = c.ask-ask.ensures.value ∙ ap (ask_of c.args.plan.now) c.drawn_with.ensures in
    drawn_used g.N.Numbers.drawn u c.ask-ask.result.admission
    (subst (Has u.drawn) (sym (ap (λ (a : Ask). a.admission) ask)) (draws_number c.args.plan.now.session _ c.in-Ok-draw_numbers.numbers _ u c.in-Ok-draw_numbers.ensures.ok))
