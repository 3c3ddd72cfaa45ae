use Rattle.rtsp_index.proofs.TableLemmas.{none_due}
use Rattle.rtsp_index.proofs.table.SessionTable.due.Goals as goal

pub returns-then-moment-least : goal.returns-then-moment-least
returns-then-moment-least c =
    let t = c.args.self.now in
    none_due t.places.entries t.rows t.expiries c.args.moment c.least.result t.dated c.least.ensures.below c.if-moment-least.true
