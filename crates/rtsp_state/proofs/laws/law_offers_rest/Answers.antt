use Rattle.rtsp_state.proofs.MeaningLemmas.{offers-rest}
use Rattle.rtsp_state.proofs.laws.law_offers_rest.Goals as goal

pub returns : goal.returns
returns c = offers-rest
