use Rattle.rtsp_npt.proofs.RangeLemmas.{range_exact, fault_exact}
use Rattle.rtsp_npt.proofs.reading.read_range.Goals as goal

pub returns-clause-range : goal.returns-clause-range
returns-clause-range c = λ range. rw c.range_of.ensures (range_exact c.args.text.now range)

pub returns-clause-fault : goal.returns-clause-fault
returns-clause-fault c = λ fault. rw c.range_of.ensures (fault_exact c.args.text.now fault)
