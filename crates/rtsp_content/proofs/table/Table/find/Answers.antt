use Rattle.std.proofs.Common.{◌≡◌, rules}
use Rattle.rtsp_content.specs.Paths.{find_of}
use Rattle.rtsp_content.proofs.PathLemmas.{find_of-names}
use Rattle.rtsp_content.proofs.table.Table.find.Goals as goal

pub returns-clause-names : goal.returns-clause-names
returns-clause-names c =
    let same : c.find_among.result ≡ find_of c.args.self.now c.args.path.now = search rules in
    rw same (find_of-names c.args.self.now c.args.path.now)
