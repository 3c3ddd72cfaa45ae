use Rattle.rtsp_roster.proofs.Rostering.{removed}
use Rattle.rtsp_roster.proofs.roster.Roster.remove.Goals as goal

pub invariant_of-self : goal.invariant_of-self
invariant_of-self g c =
    let s = c.self.inside in
    removed s.living c.try_remove.new.self s.fresh s.again c.remove.new.self c.remove-2.new.self c.args.key c.self.invariant c.try_remove.ensures.updates c.remove.ensures c.remove-2.ensures
