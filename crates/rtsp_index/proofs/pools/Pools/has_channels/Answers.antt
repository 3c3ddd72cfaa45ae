use Rattle.std.proofs.Common.{sym, ◌∙◌}
use Rattle.rtsp_index.proofs.pools.Pools.has_channels.Goals as goal

pub returns-clause-yes : goal.returns-clause-yes
returns-clause-yes c b ok some =
    let held = c.has_held.ensures.yes some in
    (held.0, sym (ok.chans c.args.conn held.0) ∙ held.1)

pub returns-clause-no : goal.returns-clause-no
returns-clause-no c b ok none l = sym (ok.chans c.args.conn l) ∙ c.has_held.ensures.no none l
