use Rattle.std.proofs.Common.{◌∙◌}
use Rattle.indexmap.specs.IndexMap.{get}
use Rattle.rtsp_index.specs.Naming.{same_startup}
use Rattle.rtsp_index.proofs.NameLemmas.{startup_number}
use Rattle.rtsp_index.proofs.names.Names.by_startup.Goals as goal

pub returns : goal.returns
returns c b ok = c.copied.ensures ∙ c.get.ensures.value ∙ startup_number b (λ k. get same_startup c.args.self.now.startups k) c.args.conn c.args.number ok.startups
