use Rattle.std.proofs.Common.{sym}
use Rattle.rtsp_state.proofs.ReadLemmas.{some_number, no_number}
use Rattle.rtsp_state.proofs.values.startup_number.Goals as goal

pub returns-in-Ok : goal.returns-in-Ok
returns-in-Ok c = sym (some_number 8 c.args.value.now _ c.in-Ok.ensures.found)

pub returns-in-Err : goal.returns-in-Err
returns-in-Err c = sym (no_number 8 c.args.value.now c.in-Err.ensures.fault.1)
