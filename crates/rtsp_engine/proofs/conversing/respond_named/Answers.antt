use Rattle.std.proofs.Common.{Option, refl, subst}
use Rattle.rtsp_lock.specs.Calls.{seat_view}
use Rattle.rtsp_state.specs.declared.request.Name.{Name}
use Rattle.rtsp_engine.specs.Desk.{service}
use Rattle.rtsp_traits.specs.Devices.{devices}
use Rattle.rtsp_engine.specs.Renewing.{Looks}
use Rattle.rtsp_engine.proofs.Replies.{parsed_ok, parsed_lacks}
use Rattle.rtsp_engine.proofs.conversing.respond_named.Goals as goal

pub returns-clause-ok : goal.returns-clause-ok
returns-clause-ok g c =
    parsed_ok (devices g.B.Binder.calls g.W.Words.calls g.C.Clock.tells g.P.Plays.calls g.S.Shares.calls) (service c.args.desk.now) c.respond_found.result _ _ c.look.new.found c.now-moment.result _ _ _ _ _ c.respond_found.ensures.ok
    (record {
      looks = subst (λ (n : Option Name). Looks c.args.desk.now.asker.conn n c.look.new.found (seat_view c.args.desk.now.seat.now) (seat_view c.look.new.seat)) c.session_name-name.ensures c.look.ensures.looks;
      clock = c.now-moment.ensures;
      binder = refl;
      words = refl;
      plays = refl;
      shares = refl;
    })

pub returns-clause-err : goal.returns-clause-err
returns-clause-err g c =
    parsed_lacks (devices g.B.Binder.calls g.W.Words.calls g.C.Clock.tells g.P.Plays.calls g.S.Shares.calls) (service c.args.desk.now) c.respond_found.result _ c.look.new.found c.now-moment.result _ _ _ c.respond_found.ensures.err
    (record {
      looks = subst (λ (n : Option Name). Looks c.args.desk.now.asker.conn n c.look.new.found (seat_view c.args.desk.now.seat.now) (seat_view c.look.new.seat)) c.session_name-name.ensures c.look.ensures.looks;
      clock = c.now-moment.ensures;
      binder = refl;
      words = refl;
      plays = refl;
      shares = refl;
    })
