use Rattle.std.proofs.Common.{sym, ◌∙◌}
use Rattle.rtsp_dialect.proofs.Rewritten.{spec_written}
use Rattle.rtsp_dialect.proofs.transport.write_spec.Goals as goal

pub returns : goal.returns
returns c =
    spec_written c.write_parameters.result c.args.out.now.items _ c.write_parameters.new.out.items c.args.text.now _ _ (sym c.is_old_text.ensures ∙ c.if-not-is_old_text.false) c.first_part.ensures.parts
    c.in_ok-extend_from_slice.ensures.items c.write_parameters.ensures
