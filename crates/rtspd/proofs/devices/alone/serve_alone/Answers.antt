use Rattle.std.proofs.Common.{rules, refl}
use Rattle.rtspd.proofs.ServedAlone.{drawn_new, whole_is, bound_none, alone_served}
use Rattle.rtspd.proofs.devices.alone.serve_alone.Goals as goal

pub returns-clause-served : goal.returns-clause-served
returns-clause-served g c =
    let new = drawn_new _ _ _ c.law_owns_all.ensures c.in_ok-lock.ensures.opened c.in-Ok.ensures.looked in
    let clauses = c.whole_of-whole.ensures in
    let serve = c.serve-end.ensures in
    let finished = c.finish-kept.ensures.finished in
    alone_served g.I.ByteIn.remaining g.O.ByteOut.contents c.args.table.now c.serve-end.result c.finish-kept.result c.args.reader.now c.serve-end.new.reader c.args.writer.now c.serve-end.new.writer
    _ c.serve-end.new.self c.seat-3-1.given.0 _
    (record { content = refl; player = refl; whole = whole_is _ _ _ new.whole clauses.pairs clauses.limits clauses.journal; owns = new.owns; seen = new.seen; mine = new.mine; ports = bound_none _ _ _ _ _ clauses.pairs c.in_ok-binder.ensures; words = c.new-words.ensures })
    (search rules) c.law_served_grows.ensures serve.served serve.cleanly serve.owns finished
