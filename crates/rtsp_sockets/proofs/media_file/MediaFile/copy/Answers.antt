use Rattle.std.proofs.Common.{length, rules}
use Rattle.rtsp_sockets.proofs.Reading.{read_held}
use Rattle.rtsp_sockets.proofs.media_file.MediaFile.copy.Goals as goal

pub returns-clause-ok : goal.returns-clause-ok
returns-clause-ok g c =
    let self = c.args.self.now in
    read_held c.copy_unit.result (g.F.ReadAt.text (g.F.ReadAt.number self.file)) c.args.bytes.now.items c.args.at (length c.args.out.now) c.copy_unit.new.out (self.whole c.args.bytes.now (search rules)) (search rules) (search rules) (search rules)
