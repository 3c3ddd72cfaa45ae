use Rattle.rtsp_state.proofs.IdLemmas.{same_id}
use Rattle.rtsp_state.proofs.values.id_of.Goals as goal

pub returns : goal.returns
returns c = same_id c.args.name.now c.session_id.result c.session_id.ensures.found c.session_id.ensures.only
