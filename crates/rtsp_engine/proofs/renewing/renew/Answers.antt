use Rattle.std.proofs.Common.{◌≡◌, ℕ, Option, Some, Result, Ok, Err, IfSome, IfErr, sym, subst, ◌∙◌}
use Rattle.rtsp_grammar.specs.declared.message.Response.{Response}
use Rattle.rtsp_record.specs.Books.{Session}
use Rattle.rtsp_lock.specs.declared.view.View.{View}
use Rattle.rtsp_lock.specs.Calls.{seat_view}
use Rattle.rtsp_state.specs.ParsedRequest.{ParsedValue}
use Rattle.rtsp_state.specs.Renewal.{renewal}
use Rattle.rtsp_engine.specs.Desk.{Service, served}
use Rattle.rtsp_engine.specs.Renewing.{RefusedRenewal, RefusesRenewal}
use Rattle.rtsp_engine.proofs.renewing.renew.Goals as goal

-- the refusal of a renewal that was due
refuses : (service : Service) (request : ParsedValue) (moment : ℕ) (found : Option (ℕ × Session)) (view : ℕ × Session) (until : ℕ) (result : Result (Unit {0}) Response) (v u : View)
    → found ≡ Some view → renewal service.table request view moment ≡ Some until → IfErr result (λ r. RefusedRenewal request view until r v u)
    → IfErr result (λ r. RefusesRenewal service request moment found r v u)
refuses service request moment found view until (Ok done) v u lives due h = h
refuses service request moment found view until (Err response) v u lives due h = record { session = view; lives = lives; until = until; renewal = due; refused = h }

pub returns-in-Some-renewal-clause-err : goal.returns-in-Some-renewal-clause-err
returns-in-Some-renewal-clause-err g c =
    let v = seat_view c.args.seat.now in
    let u = seat_view c.renew_until.new.seat in
    let until = c.in-Some-renewal.until in
    let lives : c.args.found.now ≡ Some c.in-Some.view.now = search in
    refuses (served c.args.table.now c.args.asker) c.args.request.now c.args.moment c.args.found.now c.in-Some.view.now until c.renew_until.result v u lives (sym c.renewal.ensures ∙ c.in-Some-renewal.is)
    (subst (λ (o : Option (ℕ × Session)). IfSome o (λ view. IfErr c.renew_until.result (λ r. RefusedRenewal c.args.request.now view until r v u))) lives c.renew_until.ensures.err)
