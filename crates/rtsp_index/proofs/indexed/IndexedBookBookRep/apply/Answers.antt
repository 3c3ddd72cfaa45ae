use Rattle.std.proofs.Common.{sym, subst}
use Rattle.rtsp_record.specs.Rules.{AllAllowed}
use Rattle.rtsp_sessions.specs.Plain.{PlainState}
use Rattle.rtsp_index.specs.Agreeing.{book_in}
use Rattle.rtsp_index.proofs.indexed.IndexedBookBookRep.apply.Goals as goal

pub make_all-requires-clause-allowed : goal.make_all-requires-clause-allowed
make_all-requires-clause-allowed c =
    let p = c.deref_mut-parts.result.now in
    let asked = subst (λ (v : PlainState). AllAllowed v.whole v.book c.args.changes.now) (sym c.self.view_is) c.requires in
    let here = subst (λ q. AllAllowed q.whole (book_in q) c.args.changes.now) (sym c.deref_mut-parts.ensures.value) asked in
    subst (λ w. AllAllowed w (book_in c.reserve.new.self) c.args.changes.now) (sym c.reserve.ensures.whole) (subst (λ b. AllAllowed p.whole b c.args.changes.now) (sym c.reserve.ensures.same) here)
