use Rattle.std.proofs.Common.{Option, None, refl, sym, subst, ◌∙◌}
use Rattle.rtsp_lock.specs.Calls.{seat_view}
use Rattle.rtsp_state.specs.declared.request.Name.{Name}
use Rattle.rtsp_engine.specs.Desk.{service}
use Rattle.rtsp_traits.specs.Devices.{devices}
use Rattle.rtsp_engine.specs.Renewing.{Looks}
use Rattle.rtsp_engine.proofs.Replies.{unnamed_ok, unnamed_lacks}
use Rattle.rtsp_engine.proofs.conversing.respond_parsed.Goals as goal

pub returns-in-None-clause-ok : goal.returns-in-None-clause-ok
returns-in-None-clause-ok g c =
    unnamed_ok (devices g.B.Binder.calls g.W.Words.calls g.C.Clock.tells g.P.Plays.calls g.S.Shares.calls) (service c.args.desk.now) c.respond_renewed.result _ _ c.now-moment.result _ _ _ _ _ c.respond_renewed.ensures.ok
    (record {
      looks = subst (λ (n : Option Name). Looks c.args.desk.now.asker.conn n None (seat_view c.args.desk.now.seat.now) (seat_view c.args.desk.now.seat.now)) (sym c.in-None.is ∙ c.session_name.ensures) (refl, refl);
      clock = c.now-moment.ensures;
      binder = refl;
      words = refl;
      plays = refl;
      shares = refl;
    })

pub returns-in-None-clause-err : goal.returns-in-None-clause-err
returns-in-None-clause-err g c =
    unnamed_lacks (devices g.B.Binder.calls g.W.Words.calls g.C.Clock.tells g.P.Plays.calls g.S.Shares.calls) (service c.args.desk.now) c.respond_renewed.result _ c.now-moment.result _ _ _ c.respond_renewed.ensures.err
    (record {
      looks = subst (λ (n : Option Name). Looks c.args.desk.now.asker.conn n None (seat_view c.args.desk.now.seat.now) (seat_view c.args.desk.now.seat.now)) (sym c.in-None.is ∙ c.session_name.ensures) (refl, refl);
      clock = c.now-moment.ensures;
      binder = refl;
      words = refl;
      plays = refl;
      shares = refl;
    })
