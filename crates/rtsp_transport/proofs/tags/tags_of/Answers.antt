use Rattle.std.proofs.Common.{sym, ◌∙◌}
use Rattle.std.proofs.lemmas.Result.{err_from_is_err_and}
use Rattle.rtsp_transport.specs.Tags.{tag_of, tags_of}
use Rattle.rtsp_transport.specs.declared.fault.TextFault.TheVariants.{OutOfMemory}
use Rattle.rtsp_transport.proofs.EachPart.{reads_ends}
use Rattle.rtsp_transport.proofs.tags.tags_of.Goals as goal

pub returns-in_err-tag_of : goal.returns-in_err-tag_of
unfolding tags_of
returns-in_err-tag_of c =
    let p = err_from_is_err_and c.from_residual.result c.from_residual.ensures.1 in
    let closed = sym c.is_closed.ensures ∙ c.if-not-is_closed.false in
    rw (p.1, p.2, closed) (reads_ends OutOfMemory tag_of _ _ _ _ c.parts.tags.items c.in_err-tag_of.field-0.0 c.first_part.ensures.parts c.in_err-tag_of.ensures (rw c.in-Some.is at c.parts.invariant))
