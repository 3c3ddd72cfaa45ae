use Rattle.std.proofs.Common.{◌∙◌}
use Rattle.rtsp_index.proofs.TableLemmas.{lives_here}
use Rattle.rtsp_index.proofs.table.SessionTable.lives.Goals as goal

pub returns : goal.returns
returns c =
    let t = c.args.self.now in
    c.contains_key.ensures ∙ lives_here t.places.entries t.rows c.args.session t.placed
