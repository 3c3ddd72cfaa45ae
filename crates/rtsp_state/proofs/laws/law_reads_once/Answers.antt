use Rattle.rtsp_state.proofs.ValidLemmas.{reads_once}
use Rattle.rtsp_state.proofs.laws.law_reads_once.Goals as goal

pub returns : goal.returns
returns c = reads_once
