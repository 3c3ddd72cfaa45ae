use Rattle.std.proofs.Common.{sym}
use Rattle.rtsp_state.proofs.ReadLemmas.{some_name, no_name}
use Rattle.rtsp_state.proofs.values.session_name.Goals as goal

pub returns-in-Ok : goal.returns-in-Ok
returns-in-Ok c = sym (some_name c.args.value.now _ c.in-Ok.ensures.found)

pub returns-in-Err : goal.returns-in-Err
returns-in-Err c = sym (no_name c.args.value.now c.in-Err.ensures.fault.1)
