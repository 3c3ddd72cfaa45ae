use Rattle.std.proofs.Common.{◌≡◌, ◌∙◌, sym, subst, Bool, true, false, Option, Some, None}
use Rattle.std.specs.FinMap.{entries, empty}
use Rattle.rtsp_record.specs.Books.{Book, book_of}
use Rattle.rtsp_sessions.specs.Lookups.{first_from}
use Rattle.rtsp_book.specs.Kept.{History}
use Rattle.rtsp_book.specs.Receipts.{filled}
use Rattle.rtsp_expiry.specs.Emptying.{EndsAll}
use Rattle.rtsp_expiry.proofs.Emptied.{none_ended, one_act, nobody}
use Rattle.rtsp_expiry.proofs.emptying.end_all.Goals.{in-None, in-Some+in-None-next_session}
use Rattle.rtsp_expiry.proofs.emptying.end_all.Goals as goal

pub loop-init : goal.loop-init
loop-init g c = none_ended c.args.actor c.args.kept.now

pub loop-preserved : goal.loop-preserved
loop-preserved g c =
    subst (λ (h : History). EndsAll c.args.actor c.args.kept.now h) (sym c.act_into.ensures.noted)
    (one_act c.args.actor c.args.kept.now c.loop.kept c.in-Some-next_session.session (filled c.act_into.result c.act_into.new.made) c.loop.invariant c.act_into.ensures.answers)

pub returns-clause-nobody : goal.returns-clause-nobody
returns-clause-nobody g c =
    elim c.match-next.branch [
      | in-None w ↦ let goes_on : false ≡ true = w.in-None.ensures.steps in absurd cc
      | in-Some+in-None-next_session w ↦
          let none = sym w.next_session.ensures ∙ w.in-None-next_session.is in
          nobody (book_of c.loop.kept.journal) (subst (λ (b : Book). first_from 0 (entries b) ≡ None) w.book.ensures.contents none)
    ]

pub returns-clause-ends : goal.returns-clause-ends
returns-clause-ends g c = c.loop.invariant
