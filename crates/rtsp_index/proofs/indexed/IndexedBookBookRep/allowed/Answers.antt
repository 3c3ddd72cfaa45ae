use Rattle.std.proofs.Common.{◌≡◌, subst}
use Rattle.std.specs.Prelude.{◌↔◌, IsTrue}
use Rattle.rtsp_record.specs.Rules.{Allowed}
use Rattle.rtsp_sessions.specs.Plain.{PlainState}
use Rattle.rtsp_index.specs.Agreeing.{book_in}
use Rattle.rtsp_index.proofs.indexed.IndexedBookBookRep.allowed.Goals as goal

pub returns : goal.returns
returns c =
    let seen : ◌≡◌ {A = PlainState} (record { whole = c.parts.result.now.whole; book = book_in c.parts.result.now }) c.args.self.now = λ t. record { whole = c.parts.ensures.whole t; book = c.parts.ensures.book t } in
    subst (λ (v : PlainState). IsTrue c.allowed.result ↔ Allowed v.whole v.book c.args.change.now) seen c.allowed.ensures
