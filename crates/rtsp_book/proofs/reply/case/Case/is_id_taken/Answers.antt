use Rattle.std.proofs.Common.{◌||◌, sym, ◌∙◌, ap}
use Rattle.std.specs.Prelude.{is_some, nat_lt}
use Rattle.rtsp_record.specs.Sums.{amount, with_id}
use Rattle.rtsp_sessions.proofs.Counted.{id_counted}
use Rattle.rtsp_book.proofs.reply.case.Case.is_id_taken.Goals as goal

pub returns-else-lives : goal.returns-else-lives
returns-else-lives g c =
    let b = c.args.self.now.book in
    let has_id = nat_lt 0 (amount (with_id c.args.life.now.id) b) in
    c.is_some.ensures ∙ ap is_some c.by_id.ensures ∙ id_counted b c.number.result ∙ ap (λ id. nat_lt 0 (amount (with_id id) b)) c.number.ensures
    ∙ sym (ap (λ t. t || has_id) (sym c.lives.ensures ∙ c.if-lives.false))
