use Rattle.std.proofs.Common.{[], refl}
use Rattle.rtsp_state.specs.declared.status.Status.TheVariants as statuses
use Rattle.rtsp_state.proofs.MessageLemmas.{headers_nothing, message_one}
use Rattle.rtsp_state.proofs.reply.write_unnumbered.Goals as goal

pub returns-clause-text : goal.returns-clause-text
returns-clause-text c = message_one statuses.BadRequest [] _ _ _ _ c.put_status_line.ensures.text (headers_nothing _ _ [] refl refl) c.put_end.ensures.text
