use Rattle.std.proofs.Common.{sym, subst}
use Rattle.rtsp_record.specs.Sound.{Sound}
use Rattle.rtsp_record.proofs.Sound.{sound-empty}
use Rattle.rtsp_sessions.proofs.plain.PlainBookBookRep.open.Goals as goal

pub invariant_of-result : goal.invariant_of-result
invariant_of-result c = record { sound = subst (Sound c.args.whole.now) (sym c.new.ensures) (sound-empty c.args.whole.now); ports = c.requires }
