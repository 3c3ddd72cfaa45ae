use Rattle.std.proofs.Common.{◌∙◌, ap, sym, length}
use Rattle.rtsp_content.proofs.Items.{item_count-items_view}
use Rattle.rtsp_content.proofs.keys.item_count.Goals as goal

pub returns : goal.returns
returns c = ap length c.as_slice.ensures.value ∙ sym (item_count-items_view c.args.items.now.items)
