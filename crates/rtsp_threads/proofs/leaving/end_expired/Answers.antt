use Rattle.std.proofs.Common.{refl, ◌∙◌}
use Rattle.rtsp_book.specs.declared.steps.Step.TheVariants.{Expire}
use Rattle.rtsp_admit.specs.Runs.{state_of}
use Rattle.rtsp_threads.proofs.Sweeping.{no_sweep, one_more}
use Rattle.rtsp_threads.proofs.leaving.end_expired.Goals as goal

pub loop-init : goal.loop-init
loop-init g c = ((refl, refl), refl, no_sweep g.B.Binder.calls (Expire c.args.now) (state_of c.args.handle.now.seat c.args.binder.now))

pub loop-preserved : goal.loop-preserved
loop-preserved g c =
    let i = c.loop.invariant in
    let e = c.sweep_some-swept.ensures in (
      (e.same.0 ∙ i.0.0, e.same.1 ∙ i.0.1),
      e.lock ∙ i.1,
      one_more g.B.Binder.calls (Expire c.args.now) _ _ _ c.sweep_some-swept.result i.2 e.run,
    )

pub returns-then-not-swept-clause-run : goal.returns-then-not-swept-clause-run
returns-then-not-swept-clause-run g c = one_more g.B.Binder.calls (Expire c.args.now) _ _ _ c.sweep_some-swept.result c.loop.invariant.2 c.sweep_some-swept.ensures.run
