use Rattle.std.proofs.Common.{◌≡◌, [], drop}
use Rattle.toml.specs.View.{items_view}
use Rattle.rtsp_content.specs.Allowed.{alone}
use Rattle.rtsp_content.specs.Tables.{each_from}
use Rattle.rtsp_content.proofs.allowed.read_all.Given as goal

abbrev pub invariant-loop-value : goal.invariant-loop-value
invariant-loop-value g l =
    each_from (alone g.T.Listed.said) [] (items_view l.values.items) ≡ each_from (alone g.T.Listed.said) l.entries.items (items_view (drop l.value-index l.values.items))
