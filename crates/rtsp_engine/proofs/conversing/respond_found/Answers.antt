use Rattle.std.proofs.Common.{ℕ, Option, option_map, refl, subst, sym}
use Rattle.rtsp_record.specs.Books.{Session}
use Rattle.rtsp_lock.specs.Calls.{seat_view}
use Rattle.rtsp_engine.specs.Desk.{service}
use Rattle.rtsp_traits.specs.Devices.{devices}
use Rattle.rtsp_engine.specs.Renewing.{Renews}
use Rattle.rtsp_engine.proofs.Replies.{found_ok, found_lacks, found_refused}
use Rattle.rtsp_engine.proofs.conversing.respond_found.Goals as goal

pub returns-in-Ok-clause-ok : goal.returns-in-Ok-clause-ok
returns-in-Ok-clause-ok g c =
    found_ok (devices g.B.Binder.calls g.W.Words.calls g.C.Clock.tells g.P.Plays.calls g.S.Shares.calls) (service c.args.desk.now) c.respond_renewed.result _ _ c.args.found.now (option_map (λ v. v.now) c.as_ref.result) _ _ _ _ _ _ c.respond_renewed.ensures.ok
    (record { renews = subst (λ (again : Option (ℕ × Session)). Renews (service c.args.desk.now) c.args.request c.args.moment c.args.found.now again (seat_view c.args.desk.now.seat.now) (seat_view c.renew.new.seat)) (sym c.as_ref.ensures.value) c.in-Ok.ensures.ok; others = refl })

pub returns-in-Ok-clause-err : goal.returns-in-Ok-clause-err
returns-in-Ok-clause-err g c =
    found_lacks (devices g.B.Binder.calls g.W.Words.calls g.C.Clock.tells g.P.Plays.calls g.S.Shares.calls) (service c.args.desk.now) c.respond_renewed.result _ c.args.found.now (option_map (λ v. v.now) c.as_ref.result) c.args.moment _ _ _ c.respond_renewed.ensures.err
    (record { renews = subst (λ (again : Option (ℕ × Session)). Renews (service c.args.desk.now) c.args.request c.args.moment c.args.found.now again (seat_view c.args.desk.now.seat.now) (seat_view c.renew.new.seat)) (sym c.as_ref.ensures.value) c.in-Ok.ensures.ok; others = refl })

pub returns-in-Err-clause-ok : goal.returns-in-Err-clause-ok
returns-in-Err-clause-ok g c =
    found_refused (devices g.B.Binder.calls g.W.Words.calls g.C.Clock.tells g.P.Plays.calls g.S.Shares.calls) (service c.args.desk.now) c.reply_with.result _ _ c.args.found.now c.args.moment c.in-Err.reply _ _ _ _ c.reply_with.ensures.ok
    (record { refuses = c.in-Err.ensures.err; others = refl })
