use Rattle.rtsp_admit.specs.Runs.{state_of}
use Rattle.rtsp_book.specs.declared.steps.Step.TheVariants.{Hangup}
use Rattle.rtsp_sessions.specs.Searches.{is_on}
use Rattle.rtsp_expiry.specs.Endings.{leaving}
use Rattle.rtsp_expiry.proofs.Finding.{hung_up, none_on_seen}
use Rattle.rtsp_expiry.proofs.Runs.{ends_only, none_left}
use Rattle.rtsp_expiry.proofs.sweeping.hang_up.Goals as goal

pub returns-clause-ended : goal.returns-clause-ended
returns-clause-ended g c =
    ends_only g.B.Binder.calls (Hangup c.args.conn) (is_on c.args.conn) (leaving c.args.conn) (λ v u made acted. hung_up v.whole acted.journal c.args.conn made acted.answers) c.args.limit c.act_all.result
    (state_of c.args.seat.now c.args.binder.now) (state_of c.act_all.new.seat c.act_all.new.binder) c.act_all.ensures.run

pub returns-clause-none : goal.returns-clause-none
returns-clause-none g c =
    none_left g.B.Binder.calls (Hangup c.args.conn) (is_on c.args.conn) (leaving c.args.conn) (λ v u acted. none_on_seen c.args.conn v u acted) c.args.limit c.act_all.result
    (state_of c.args.seat.now c.args.binder.now) (state_of c.act_all.new.seat c.act_all.new.binder) c.act_all.ensures.run
