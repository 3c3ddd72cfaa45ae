use Rattle.std.proofs.Common.{◌≡◌, [], drop, length, map}
use Rattle.toml.specs.View.{items_view}
use Rattle.rtsp_text.specs.Slices.{held}
use Rattle.rtsp_content.specs.Distinct.{AreDistinct}
use Rattle.rtsp_content.specs.Tables.{each_from, in_table}
use Rattle.rtsp_content.proofs.reading.read_each.Given as goal

abbrev pub invariant-loop-value : goal.invariant-loop-value
invariant-loop-value g l =
    let said = in_table (g.T.Stated.said (held l.folder)) in
    record {
      read : each_from said [] (items_view l.values.items) ≡ each_from said l.entries.items (items_view (drop l.value-index l.values.items));
      count : length l.entries.items ≡ l.value-index;
      distinct : AreDistinct (map g.T.Stated.name_of l.entries.items);
    }
