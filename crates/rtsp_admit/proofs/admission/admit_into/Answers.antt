use Rattle.std.proofs.Common.{refl, subst}
use Rattle.std.specs.Prelude.{Option}
use Rattle.rtsp_record.specs.declared.holdings.Thing.{Thing}
use Rattle.rtsp_book.specs.Receipts.{filled}
use Rattle.rtsp_book.specs.declared.steps.Chain.{Chain}
use Rattle.rtsp_book.specs.declared.steps.Step.TheVariants as step
use Rattle.rtsp_lock.specs.Calls.{seat_view, Acted}
use Rattle.rtsp_admit.specs.Binder.{Released}
use Rattle.rtsp_admit.specs.Runs.{state_of}
use Rattle.rtsp_lock.proofs.Naming.{names_none}
use Rattle.rtsp_admit.proofs.admission.admit_into.Goals as goal

pub act_into-requires-clause-names : goal.act_into-requires-clause-names
act_into-requires-clause-names g c = names_none g.N.Numbers.drawn _ _ refl

pub returns-in-Err-clause-run : goal.returns-in-Err-clause-run
returns-in-Err-clause-run g c = record {
  cause = c.in-Err.failure;
  broken = state_of c.complete.new.seat c.complete.new.binder;
  fails = c.in-Err.ensures.err;
  first = c.refusal.ensures;
  answer = filled c.act_into.result c.act_into.new.made;
  unwinds = subst (λ (chain : Chain). Acted (seat_view c.complete.new.seat) (seat_view c.act_into.new.self) (step.Unwind chain) (filled c.act_into.result c.act_into.new.made)) c.chain-chain.ensures c.act_into.ensures.acted;
  releases = subst (λ (o : Option Thing). Released g.B.Binder.calls c.args.ask.now.admission o c.complete.new.binder c.release.new.binder) c.bound_address.ensures c.release.ensures;
}
