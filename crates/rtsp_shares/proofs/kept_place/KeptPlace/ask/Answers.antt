use Rattle.std.proofs.Common.{true, false}
use Rattle.rtsp_shares.proofs.Telling.{asked_once, told_once}
use Rattle.rtsp_shares.proofs.kept_place.KeptPlace.ask.Goals as goal

pub returns-then-lives-clause-asked : goal.returns-then-lives-clause-asked
returns-then-lives-clause-asked g c =
    asked_once g.L.Living.tells c.args.living.now c.lives.new.self c.args.self.number c.lives.result c.lives.ensures

pub returns-then-lives-clause-lives : goal.returns-then-lives-clause-lives
returns-then-lives-clause-lives g c =
    told_once g.L.Living.tells c.args.living.now c.lives.new.self c.args.self.number c.lives.result true c.if-lives.true c.lives.ensures

pub returns-else-lives-clause-asked : goal.returns-else-lives-clause-asked
returns-else-lives-clause-asked g c =
    asked_once g.L.Living.tells c.args.living.now c.lives.new.self c.args.self.number c.lives.result c.lives.ensures

pub returns-else-lives-clause-ended : goal.returns-else-lives-clause-ended
returns-else-lives-clause-ended g c =
    told_once g.L.Living.tells c.args.living.now c.lives.new.self c.args.self.number c.lives.result false c.if-lives.false c.lives.ensures
