use Rattle.std.proofs.Common.{sym, ap, ◌∙◌}
use Rattle.std.specs.Prelude.{option_copied}
use Rattle.slab.specs.Slab.{get as row_in}
use Rattle.rtsp_index.proofs.TableLemmas.{none_is}
use Rattle.rtsp_index.proofs.table.SessionTable.view_at.Goals as goal

pub unreachable-requires : goal.unreachable-requires
unreachable-requires c = none_is (row_in c.args.self.now.rows c.args.place) (sym c.get.ensures ∙ ap option_copied c.in-None.is) c.requires
