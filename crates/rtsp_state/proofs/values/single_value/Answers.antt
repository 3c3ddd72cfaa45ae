use Rattle.rtsp_state.proofs.SingleLemmas.{single_found, several_found}
use Rattle.rtsp_state.proofs.values.single_value.Goals as goal

pub returns-in-Ok : goal.returns-in-Ok
returns-in-Ok c = single_found _ _ _ c.in-Ok.ensures.one

pub returns-in-Err : goal.returns-in-Err
returns-in-Err c = several_found _ _ c.in-Err.ensures.several
