use Rattle.std.proofs.Common.{◌≡◌, ◌<◌, [], drop, length, slice_get, Some}
use Rattle.std.specs.Prelude.{All}
use Rattle.toml.specs.View.{items_view}
use Rattle.rtsp_content.specs.Starts.{start_behind}
use Rattle.rtsp_content.specs.Tables.{each_from}
use Rattle.rtsp_content.proofs.starts.read_starts.Given as goal

-- those so far are read, and the rest behind them
abbrev pub invariant-loop-value : goal.invariant-loop-value
invariant-loop-value l = record {
  read : each_from (start_behind l.units) [] (items_view l.items.items) ≡ each_from (start_behind l.units) l.starts.items (items_view (drop l.value-index l.items.items));
  count : length l.starts.items ≡ l.value-index;
  within : All (λ s. s < l.units) l.starts.items;
  first : 0 < length l.starts.items → slice_get l.starts.items 0 ≡ Some 0;
}
