use Rattle.rtsp_text.proofs.DecimalLemmas.{IsFront}
use Rattle.rtsp_text.proofs.decimal.digits_number.Given as goal

-- what is read so far is digits, and writes the number
abbrev pub invariant-loop-digit : goal.invariant-loop-digit
invariant-loop-digit l = IsFront l.text l.digit-index l.number
