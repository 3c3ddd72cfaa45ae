use Rattle.std.proofs.lemmas.Result.{err_from_is_err_and}
use Rattle.rtsp_transport.specs.TransportReading.{parameter_of}
use Rattle.rtsp_transport.specs.declared.fault.TextFault.TheVariants.{OutOfMemory}
use Rattle.rtsp_transport.proofs.EachPart.{reads_ends}
use Rattle.rtsp_transport.proofs.spec.Parameter.read_each.Goals as goal

pub returns-in_err-read : goal.returns-in_err-read
returns-in_err-read c =
    let p = err_from_is_err_and c.from_residual.result c.from_residual.ensures.1 in
    rw (p.1, p.2) (reads_ends OutOfMemory parameter_of _ _ _ _ c.parts.parameters c.in_err-read.field-0.0 c.first_part.ensures.parts c.in_err-read.ensures (rw c.in-Some.is at c.parts.invariant))
