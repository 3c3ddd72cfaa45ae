use Rattle.std.proofs.Common.{drop}
use Rattle.rtsp_admit.specs.Binder.{UnboundAll, freed_of}
use Rattle.rtsp_admit.proofs.binder.unbind_all.Given as goal

abbrev pub invariant-loop-change : goal.invariant-loop-change
invariant-loop-change g l = (c : _) → UnboundAll g.B.Binder.calls (freed_of l.kind (drop l.change-index l.changes)) l.binder c → UnboundAll g.B.Binder.calls (freed_of l.kind l.changes) l.fn.binder c
