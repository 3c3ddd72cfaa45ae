use Rattle.rtsp_state.proofs.NowhereLemmas.{names_nothing}
use Rattle.rtsp_state.proofs.laws.law_names_nothing.Goals as goal

pub returns : goal.returns
returns c = names_nothing
