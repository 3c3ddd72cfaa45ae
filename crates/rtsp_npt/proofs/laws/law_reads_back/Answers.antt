use Rattle.rtsp_npt.proofs.PrintLemmas.{time_back, range_back, stop_back}
use Rattle.rtsp_npt.proofs.laws.law_reads_back.Goals as goal

pub returns-clause-time : goal.returns-clause-time
returns-clause-time c = time_back

pub returns-clause-range : goal.returns-clause-range
returns-clause-range c = range_back

pub returns-clause-stop : goal.returns-clause-stop
returns-clause-stop c = stop_back
