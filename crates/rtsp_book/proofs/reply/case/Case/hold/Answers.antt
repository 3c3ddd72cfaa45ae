use Rattle.std.proofs.Common.{sym, ◌∙◌}
use Rattle.rtsp_book.proofs.Replying.{hold_allowed}
use Rattle.rtsp_book.proofs.reply.case.Case.hold.Goals as goal

pub unless_full-requires : goal.unless_full-requires
unless_full-requires g c =
    let r = c.requires in
    let k = c.args.self.now in
    let v = c.args.view.now in
    let made = rw (r.empty, c.session.ensures) at c.push.ensures in
    hold_allowed k.whole k.entries k.book r.sound r.room v.0 c.args.admission c.args.thing v.1 _ r.lives (sym c.is_wrong.ensures ∙ c.if-is_wrong.false) r.free made
