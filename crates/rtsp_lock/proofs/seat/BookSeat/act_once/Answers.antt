use Rattle.std.proofs.Common.{◌∙◌, sym, ap, subst}
use Rattle.rtsp_book.specs.Kept.{History}
use Rattle.rtsp_book.specs.Receipts.{filled}
use Rattle.rtsp_lock.specs.declared.view.View.{View}
use Rattle.rtsp_lock.proofs.Answering.{Lawful, view_is, act_notes, acts}
use Rattle.rtsp_lock.proofs.seat.BookSeat.act_once.Goals as goal

pub note-kept-requires-clause-leaves : goal.note-kept-requires-clause-leaves
note-kept-requires-clause-leaves g c known =
    let a = c.act_into-answer.ensures in
    let seat = c.take-kept.new.self in
    let v1 = view_is c.take-kept.ensures.seat in
    act_notes g.N.Numbers.drawn c.args.self.now.seat.me.0 seat.seat.me.0 seat.seat.me.0.history c.take-kept.result c.act_into-answer.new.self seat.actor c.args.step.now (filled c.act_into-answer.result c.act_into-answer.new.made) v1 (sym seat.actor_is ∙ ap (λ (v : View). v.actor) v1) c.requires.names a.answers a.noted known

pub returns-clause-acted : goal.returns-clause-acted
returns-clause-acted g c =
    let t = c.take-kept.ensures in
    let a = c.act_into-answer.ensures in
    let p = c.put_back.ensures in
    let seat = c.take-kept.new.self in
    let v1 = view_is t.seat in
    acts seat.actor c.args.step.now (filled c.act_into-answer.result c.act_into-answer.new.made)
    (record {
      held = v1;
      follows = t.follows;
      noted = view_is c.note-kept.ensures.seat;
      put = view_is p.seat;
      whole = ap (λ (k : History). k.whole) t.value;
      lawful = record { legal = t.legal; limit = t.limit };
      left = subst Lawful c.note-kept.ensures.value (record { legal = p.legal; limit = p.limit });
      fits = t.fits;
      alone = t.alone;
      abreast = t.abreast;
      used = record { used = t.used; unused = t.unused };
    })
    (sym seat.actor_is ∙ ap (λ (v : View). v.actor) v1) a.answers a.noted
