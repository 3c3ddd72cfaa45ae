use Rattle.rtsp_state.proofs.AlikeLemmas.{reads-alike}
use Rattle.rtsp_state.proofs.laws.law_reads_alike.Goals as goal

pub returns : goal.returns
returns c = reads-alike
