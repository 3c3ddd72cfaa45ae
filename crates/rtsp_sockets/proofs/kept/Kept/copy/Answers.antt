use Rattle.std.proofs.Common.{◌≡◌, length, rules, subst}
use Rattle.rtsp_sockets.specs.Files.{StandAt}
use Rattle.rtsp_sockets.proofs.Reading.{read_kept}
use Rattle.rtsp_sockets.proofs.kept.Kept.copy.Goals as goal

pub returns-clause-ok : goal.returns-clause-ok
returns-clause-ok g c =
    let self = c.args.self.now in
    let number : self.number ≡ g.F.ReadAt.number c.args.file.now = search rules in
    let kept : StandAt (g.F.ReadAt.text (g.F.ReadAt.number c.args.file.now)) self.at self.bytes.items = subst (λ n. StandAt (g.F.ReadAt.text n) self.at self.bytes.items) number self.stand in
    read_kept c.copy_unit.result (g.F.ReadAt.text (g.F.ReadAt.number c.args.file.now)) self.bytes.items self.at c.args.at (length c.args.out.now) c.copy_unit.new.out kept (search rules) (search rules) (search rules) (search rules)
