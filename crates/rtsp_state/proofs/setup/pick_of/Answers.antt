use Rattle.rtsp_state.proofs.PickLemmas.{picked}
use Rattle.rtsp_state.proofs.setup.pick_of.Goals as goal

pub returns : goal.returns
returns c = picked c.args.peer c.args.specs.now c.pick.result c.pick.ensures
