use Rattle.rtsp_state.specs.declared.status.Status.TheVariants as statuses
use Rattle.rtsp_state.specs.Answer.{granted_lines, media_lines}
use Rattle.rtsp_state.proofs.MessageLemmas.{message_two}
use Rattle.rtsp_state.proofs.setup_plan.write_admitted.Goals as goal

pub returns-clause-text : goal.returns-clause-text
returns-clause-text c = message_two statuses.Success (granted_lines c.args.plan.now c.args.source c.args.id c.args.made.now) (media_lines c.args.plan.now.timing) _ _ _ _ _ c.put_status_line.ensures.text c.put_granted.ensures.text c.put_media.ensures.text c.put_end.ensures.text
