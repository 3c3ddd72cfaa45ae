use Rattle.std.proofs.Common.{arith}
use Rattle.rtsp_sessions.proofs.FitLemmas.{owed_within}
use Rattle.rtsp_sessions.proofs.plain.PlainBook.rows.Goals as goal

pub returns-clause-living : goal.returns-clause-living
returns-clause-living c = omega (arith, c.self.invariant.sound.few)

pub returns-clause-rate : goal.returns-clause-rate
returns-clause-rate c = omega (arith, c.self.invariant.sound.rate)

pub returns-clause-owed : goal.returns-clause-owed
returns-clause-owed c = omega (arith, owed_within c.self.inside.whole c.self.inside.rows c.self.invariant.sound)
