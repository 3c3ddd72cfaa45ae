use Rattle.std.proofs.Common.{nat_eq, ap}
use Rattle.std.specs.Map.{lookup}
use Rattle.indexmap.specs.IndexMap.{get}
use Rattle.rtsp_index.specs.Naming.{id_of, startup_of, same_startup}
use Rattle.rtsp_index.proofs.NameLemmas.{empty_index}
use Rattle.rtsp_index.proofs.names.Names.new.Goals as goal

pub returns : goal.returns
returns c =
    record {
      ids = empty_index id_of (λ i. get nat_eq c.new.result i) (λ k. ap (lookup (nat_eq k)) c.new.ensures.empty);
      startups = empty_index startup_of (λ k. get same_startup c.new-2.result k) (λ k. ap (lookup (same_startup k)) c.new-2.ensures.empty);
    }
