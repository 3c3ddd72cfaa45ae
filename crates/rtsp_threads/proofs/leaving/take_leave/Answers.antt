use Rattle.std.proofs.Common.{refl, ◌∙◌}
use Rattle.rtsp_book.specs.declared.steps.Step.TheVariants.{Hangup}
use Rattle.rtsp_admit.specs.Runs.{state_of}
use Rattle.rtsp_threads.proofs.Sweeping.{no_sweep, one_more}
use Rattle.rtsp_threads.proofs.leaving.take_leave.Goals as goal

pub loop-init : goal.loop-init
loop-init g c = ((refl, refl), refl, no_sweep g.B.Binder.calls (Hangup c.args.conn) (state_of c.args.handle.now.seat c.args.binder.now))

pub loop-preserved : goal.loop-preserved
loop-preserved g c =
    let i = c.loop.invariant in
    let e = c.hang_up_once-swept.ensures in (
      (e.same.0 ∙ i.0.0, e.same.1 ∙ i.0.1),
      e.lock ∙ i.1,
      one_more g.B.Binder.calls (Hangup c.args.conn) _ _ _ c.hang_up_once-swept.result i.2 e.run,
    )

pub returns-then-not-swept-clause-run : goal.returns-then-not-swept-clause-run
returns-then-not-swept-clause-run g c = one_more g.B.Binder.calls (Hangup c.args.conn) _ _ _ c.hang_up_once-swept.result c.loop.invariant.2 c.hang_up_once-swept.ensures.run
