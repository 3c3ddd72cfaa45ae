use Rattle.rtsp_transport.proofs.IdLemmas.{PairsRead}
use Rattle.rtsp_transport.proofs.session.id_of.Given as goal

abbrev pub invariant-loop-i : goal.invariant-loop-i
invariant-loop-i l = PairsRead l.digits l.bytes l.i l.are_digits
