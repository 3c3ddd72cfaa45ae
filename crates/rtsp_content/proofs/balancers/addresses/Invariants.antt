use Rattle.std.proofs.Common.{◌≡◌, [], drop}
use Rattle.toml.specs.View.{items_view}
use Rattle.rtsp_content.specs.Balancers.{beside}
use Rattle.rtsp_content.specs.Tables.{each_from}
use Rattle.rtsp_content.proofs.balancers.addresses.Given as goal

abbrev pub invariant-loop-value : goal.invariant-loop-value
invariant-loop-value l = each_from beside [] (items_view l.values.items) ≡ each_from beside l.addresses.items (items_view (drop l.value-index l.values.items))
