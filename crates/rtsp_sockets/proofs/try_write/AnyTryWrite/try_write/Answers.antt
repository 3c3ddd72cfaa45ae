use Rattle.std.proofs.KnownBytes.{Keeps-refl, Keeps-trans}
use Rattle.rtsp_sockets.proofs.Known.{tries_after, tries_none}
use Rattle.rtsp_sockets.proofs.try_write.AnyTryWrite.try_write.Goals as goal

pub loop-init : goal.loop-init
loop-init g c = Keeps-refl _

pub returns-in-Answered-clause-tries : goal.returns-in-Answered-clause-tries
returns-in-Answered-clause-tries g c = tries_after _ _ _ c.args.bytes.now c.in-Answered.taken c.loop.invariant c.in-Answered.ensures

pub loop-preserved : goal.loop-preserved
loop-preserved g c = Keeps-trans _ _ _ c.loop.invariant c.in_default.ensures

pub returns-clause-tries : goal.returns-clause-tries
returns-clause-tries g c = tries_none _ _ c.args.bytes.now c.loop.invariant
