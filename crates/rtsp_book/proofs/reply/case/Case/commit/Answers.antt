use Rattle.std.proofs.Common.{sym, ◌∙◌}
use Rattle.rtsp_book.proofs.Replying.{commit_allowed}
use Rattle.rtsp_book.proofs.reply.case.Case.commit.Goals as goal

pub unless_full-requires : goal.unless_full-requires
unless_full-requires g c =
    let v = c.in_ok-view.ensures in
    commit_allowed c.args.self.now.whole c.args.self.now.entries c.args.self.now.book v.sound v.room c.args.commit.now c.in_ok-view.view.now.1 _ v.found.1 (sym c.is_wrong.ensures ∙ c.if-is_wrong.false) (sym c.is_startup_taken.ensures ∙ c.if-is_startup_taken.false) (sym c.is_unready.ensures ∙ c.if-is_unready.false) c.set_up.ensures
