use Rattle.std.proofs.Common.{[], ◌∷◌}
use Rattle.rtsp_state.specs.declared.status.Status.TheVariants as statuses
use Rattle.rtsp_state.specs.Lines.{start_lines, unsupported_line}
use Rattle.rtsp_state.proofs.MessageLemmas.{headers_one, message_two}
use Rattle.rtsp_state.proofs.refusals.write_unsupported.Goals as goal

pub returns-clause-text : goal.returns-clause-text
returns-clause-text c = message_two statuses.OptionNotSupported (start_lines c.args.start) (unsupported_line c.args.tags.now ∷ []) _ _ _ _ _ c.put_status_line.ensures.text c.put_response_start.ensures.text (headers_one _ _ _ c.put_unsupported.ensures.text) c.put_end.ensures.text
