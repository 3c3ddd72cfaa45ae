use Rattle.std.proofs.Common.{◌+◌, subst, ap, ◌∙◌}
use Rattle.std.specs.FinMap.{get}
use Rattle.rtsp_record.specs.Tables.{set}
use Rattle.rtsp_record.specs.Books.{effect}
use Rattle.rtsp_record.specs.Sums.{one_if}
use Rattle.rtsp_sessions.specs.Plain.{is_open}
use Rattle.rtsp_index.specs.Contents.{sessions_in, HasRoom}
use Rattle.rtsp_index.proofs.TableLemmas.{less_room}
use Rattle.rtsp_index.proofs.table.SessionTable.make.Goals as goal

pub returns-in-Open-clause-room : goal.returns-in-Open-clause-room
returns-in-Open-clause-room c n h = c.open.ensures.room n (subst (λ r. HasRoom c.args.self.now (n + one_if (is_open r))) c.in-Open.is h)

pub returns-in-Close-clause-room : goal.returns-in-Close-clause-room
returns-in-Close-clause-room c n h = c.close.ensures.room n (less_room c.args.self.now n (one_if (is_open c.args.change.now)) h)

pub returns-in_default-clause-table : goal.returns-in_default-clause-table
returns-in_default-clause-table c =
    let b = sessions_in c.args.self.now in
    c.change.ensures.table ∙ ap (λ s. set b s (effect c.args.change.now (get b s))) c.session.ensures

pub returns-in_default-clause-room : goal.returns-in_default-clause-room
returns-in_default-clause-room c n h = c.change.ensures.room n (less_room c.args.self.now n (one_if (is_open c.args.change.now)) h)
