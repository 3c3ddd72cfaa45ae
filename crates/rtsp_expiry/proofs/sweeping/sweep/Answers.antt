use Rattle.rtsp_admit.specs.Runs.{state_of}
use Rattle.rtsp_book.specs.declared.steps.Step.TheVariants.{Expire}
use Rattle.rtsp_sessions.specs.Searches.{is_expired}
use Rattle.rtsp_expiry.specs.Endings.{ended}
use Rattle.rtsp_expiry.proofs.Finding.{expired, none_expired_seen}
use Rattle.rtsp_expiry.proofs.Runs.{ends_only, none_left}
use Rattle.rtsp_expiry.proofs.sweeping.sweep.Goals as goal

pub returns-clause-ended : goal.returns-clause-ended
returns-clause-ended g c =
    ends_only g.B.Binder.calls (Expire c.args.now) (is_expired c.args.now) ended (λ v u made acted. expired v.whole acted.journal c.args.now made acted.answers) c.args.limit c.act_all.result
    (state_of c.args.seat.now c.args.binder.now) (state_of c.act_all.new.seat c.act_all.new.binder) c.act_all.ensures.run

pub returns-clause-none : goal.returns-clause-none
returns-clause-none g c =
    none_left g.B.Binder.calls (Expire c.args.now) (is_expired c.args.now) ended (λ v u acted. none_expired_seen c.args.now v u acted) c.args.limit c.act_all.result
    (state_of c.args.seat.now c.args.binder.now) (state_of c.act_all.new.seat c.act_all.new.binder) c.act_all.ensures.run
