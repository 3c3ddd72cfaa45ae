use Rattle.std.proofs.Common.{drop, ◌+◌, sym, ap, subst, ◌∙◌}
use Rattle.rtsp_record.specs.Books.{after, after_all}
use Rattle.rtsp_record.specs.Rules.{AllAllowed}
use Rattle.rtsp_index.specs.Agreeing.{book_in}
use Rattle.rtsp_index.proofs.AgreeLemmas.{allowed_next, made_next, room_next, room_now}
use Rattle.rtsp_index.proofs.parts.Parts.make_all.Goals as goal

pub make-requires-clause-allowed : goal.make-requires-clause-allowed
make-requires-clause-allowed c =
    let p = c.loop-change.self in
    (allowed_next p.whole (book_in p) c.args.changes.now c.loop-change.change-index c.change-item.result c.loop-change-test.true c.change-item.is c.loop-change.invariant.allowed).0

pub make-requires-clause-room : goal.make-requires-clause-room
make-requires-clause-room c = room_now c.loop-change.self _ _ _ _ _ _ (room_next c.loop-change.self c.args.changes.now c.loop-change.change-index c.change-item.result c.loop-change-test.true c.change-item.is c.loop-change.invariant.room)

pub loop-change-preserved : goal.loop-change-preserved
loop-change-preserved c =
    let p = c.loop-change.self in
    let cs = c.args.changes.now in
    let k = c.loop-change.change-index in
    let was = c.loop-change.invariant in
    record {
      agree = c.make.ensures.agree;
      whole = c.make.ensures.whole ∙ was.whole;
      allowed =
          subst (λ b. AllAllowed c.make.new.self.whole b (drop (k + 1) cs)) (sym c.make.ensures.book)
          (subst (λ w. AllAllowed w (after (book_in p) c.change-item.result) (drop (k + 1) cs)) (sym c.make.ensures.whole) (allowed_next p.whole (book_in p) cs k c.change-item.result c.loop-change-test.true c.change-item.is was.allowed).1);
      made = ap (λ b. after_all b (drop (k + 1) cs)) c.make.ensures.book ∙ sym (made_next (book_in p) cs k c.change-item.result c.loop-change-test.true c.change-item.is) ∙ was.made;
      room = c.make.ensures.room _ _ _ (room_next p cs k c.change-item.result c.loop-change-test.true c.change-item.is was.room);
    }
