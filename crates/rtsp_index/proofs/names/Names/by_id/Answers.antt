use Rattle.std.proofs.Common.{nat_eq, ◌∙◌}
use Rattle.indexmap.specs.IndexMap.{get}
use Rattle.rtsp_index.proofs.NameLemmas.{id_number}
use Rattle.rtsp_index.proofs.names.Names.by_id.Goals as goal

pub returns : goal.returns
returns c b ok = c.copied.ensures ∙ c.get.ensures.value ∙ id_number b (λ i. get nat_eq c.args.self.now.ids i) c.args.id ok.ids
