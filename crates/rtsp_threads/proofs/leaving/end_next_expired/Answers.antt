use Rattle.std.proofs.Common.{refl}
use Rattle.rtsp_threads.proofs.leaving.end_next_expired.Goals as goal

pub returns-clause-ends : goal.returns-clause-ends
returns-clause-ends g c = record { swept = c.sweep.result; run = c.sweep.ensures.run; last = refl; ended = c.sweep.ensures.ended; none = c.sweep.ensures.none }
