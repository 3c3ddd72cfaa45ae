use Rattle.std.proofs.Common.{sym, ap, ◌∙◌}
use Rattle.std.specs.Prelude.{option_copied, option_map}
use Rattle.rtsp_record.specs.Books.{Session}
use Rattle.rtsp_index.proofs.TableLemmas.{no_place, row_there}
use Rattle.rtsp_index.proofs.table.SessionTable.get.Goals as goal

pub returns-in_err-place : goal.returns-in_err-place
returns-in_err-place c =
    let t = c.args.self.now in
    ap option_copied c.from_residual.ensures ∙ sym (ap (option_map (λ (f : Session). (c.args.session, f))) (no_place t.places.entries t.rows c.args.session (sym c.in_err-place.ensures.value)))

pub returns : goal.returns
returns c =
    let t = c.args.self.now in
    row_there t.places.entries t.rows c.args.session c.in_ok-place.place.now (option_copied c.get-2.result) t.placed (sym c.in_ok-place.ensures.value) c.get-2.ensures
