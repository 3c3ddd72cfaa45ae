use Rattle.rtsp_grammar.proofs.LongerLemmas.{found_only, found_nothing}
use Rattle.rtsp_grammar.proofs.read.read_item.Goals as goal

pub returns-clause-only : goal.returns-clause-only
returns-clause-only c = found_only c.args.bytes.now c.item_at.result c.item_at.ensures.length c.item_at.ensures.item c.item_at.ensures.none c.item_at.ensures.fault

pub returns-clause-open : goal.returns-clause-open
returns-clause-open c = found_nothing c.args.bytes.now c.item_at.result c.item_at.ensures.length c.item_at.ensures.item c.item_at.ensures.none c.item_at.ensures.fault
