use Rattle.rtsp_npt.proofs.HeaderLemmas.{short_time, short_range, short_stop}
use Rattle.rtsp_npt.proofs.laws.law_fits_header.Goals as goal

pub returns-clause-time : goal.returns-clause-time
returns-clause-time c = short_time

pub returns-clause-range : goal.returns-clause-range
returns-clause-range c = short_range

pub returns-clause-stop : goal.returns-clause-stop
returns-clause-stop c = short_stop
