use Rattle.std.proofs.Common.{sym, ◌∙◌, arith, false, length}
use Rattle.std.proofs.lemmas.Bool.{le-ltb}
use Rattle.std.proofs.lemmas.Result.{err_from_is_err_and}
use Rattle.rtsp_transport.specs.Split.{split}
use Rattle.rtsp_transport.specs.TransportReading.{spec_of, transports_of}
use Rattle.rtsp_transport.specs.declared.fault.TextFault.TheVariants.{OutOfMemory}
use Rattle.rtsp_transport.proofs.EachPart.{reads_ends, reads_done}
use Rattle.rtsp_transport.proofs.TransportLemmas.{fault_read}
use Rattle.rtsp_transport.proofs.transports.transports_of.Goals as goal

pub returns-in_err-read : goal.returns-in_err-read
returns-in_err-read c =
    let p = err_from_is_err_and c.from_residual.result c.from_residual.ensures.1 in
    let so_far = rw c.in-Some.is at c.parts.invariant in
    rw (p.1, p.2) (fault_read c.args.text.now c.in_err-read.field-0.0 (sym c.is_closed.ensures ∙ c.if-not-is_closed.false)
    (reads_ends OutOfMemory spec_of _ _ _ _ c.parts.specs.items c.in_err-read.field-0.0 c.first_part.ensures.parts c.in_err-read.ensures so_far.0))

pub returns : goal.returns
unfolding transports_of
returns c =
    let so_far = rw c.in_default.is at c.parts.invariant in
    let closed = sym c.is_closed.ensures ∙ c.if-not-is_closed.false in
    let few = le-ltb 16 (length (split false 44 c.args.text.now)) (omega (arith, so_far.1, so_far.2)) in
    rw (closed, few) (reads_done spec_of (split false 44 c.args.text.now) c.parts.specs.items so_far.0)
