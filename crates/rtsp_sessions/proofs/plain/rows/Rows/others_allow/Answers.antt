use Rattle.rtsp_record.specs.Sums.{amount, bindings}
use Rattle.rtsp_sessions.proofs.FreeLemmas.{zero_is}
use Rattle.rtsp_sessions.proofs.plain.rows.Rows.others_allow.Goals as goal

pub returns-in-Open : goal.returns-in-Open
returns-in-Open c = rw (c.in-Open.is, ← c.number.ensures) c.may_open.ensures

pub returns-in-Bind : goal.returns-in-Bind
returns-in-Bind c = rw c.in-Bind.is (zero_is c.amount.result (amount (bindings c.in-Bind.binding.conn c.in-Bind.binding.number) c.args.self.now) c.amount.ensures)
