use Rattle.rtsp_state.specs.Lines.{range_line}
use Rattle.rtsp_state.proofs.MessageLemmas.{headers_one}
use Rattle.rtsp_state.proofs.step_plan.put_paused.Goals as goal

pub returns-clause-text : goal.returns-clause-text
returns-clause-text c = headers_one _ _ (range_line c.args.at c.args.timing.units c.args.timing.unit_ms) c.put_range.ensures.text
