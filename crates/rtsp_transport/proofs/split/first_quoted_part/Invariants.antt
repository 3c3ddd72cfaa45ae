use Rattle.rtsp_transport.proofs.SplitLemmas.{Splits}
use Rattle.rtsp_transport.proofs.split.first_quoted_part.Given as goal

abbrev pub invariant-loop-i : goal.invariant-loop-i
invariant-loop-i l = Splits l.text l.i l.inside l.separator
