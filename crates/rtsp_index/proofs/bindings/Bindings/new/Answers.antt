use Rattle.std.proofs.Common.{◌≡◌, nat_eq, sym, ap, ◌∙◌}
use Rattle.std.specs.Prelude.{None}
use Rattle.std.specs.Map.{lookup}
use Rattle.indexmap.specs.IndexMap.{get}
use Rattle.rtsp_record.proofs.Sound.{amount-empty}
use Rattle.rtsp_pools.specs.Pools.{or_zero}
use Rattle.rtsp_index.specs.Bound.{bindings_of}
use Rattle.rtsp_index.proofs.bindings.Bindings.new.Goals as goal

pub returns : goal.returns
returns c k =
    let none : get nat_eq c.new.result k ≡ None = ap (lookup (nat_eq k)) c.new.ensures.empty in
    ap or_zero none ∙ sym (amount-empty (bindings_of k))
