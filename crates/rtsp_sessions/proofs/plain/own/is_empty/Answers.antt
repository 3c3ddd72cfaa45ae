use Rattle.std.proofs.Common.{arith}
use Rattle.std.proofs.lemmas.Bool.Decides.{nat_tests}
use Rattle.rtsp_sessions.proofs.PlainLemmas.{none_empty, empty_none}
use Rattle.rtsp_sessions.proofs.plain.own.is_empty.Goals as goal

pub returns : goal.returns
returns c = (
  λ h. none_empty c.args.admissions.now (let len = c.len.ensures in grind (arith, nat_tests)),
  λ h. let none = empty_none c.args.admissions.now h in let len = c.len.ensures in grind (arith, nat_tests),
)
