use Rattle.std.proofs.Common.{arith}
use Rattle.rtsp_text.proofs.DecimalLemmas.{more_room}
use Rattle.rtsp_text.proofs.decimal.number_of.Goals as goal

pub returns-clause-small : goal.returns-clause-small
returns-clause-small c = more_room c.digits_number.result _ c.args.most (omega arith) c.digits_number.ensures.small
